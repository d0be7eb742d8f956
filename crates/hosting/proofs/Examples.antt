-- The bytes of the states and of the outputs of specs/Examples.antt.
use mathlib.Core.Path.{◌≡◌, refl}
use mathlib.Core.List.{map}
use Rattle.hosting.specs.Bytes.{state_bytes}
use Rattle.hosting.specs.Calls.{output_bytes}
use Rattle.hosting.specs.Examples.{states, written, outputs, numbers}

pub table : map state_bytes states ≡ written
unfolding state_bytes
table = refl

pub outputs_table : map output_bytes outputs ≡ numbers
unfolding output_bytes
outputs_table = refl
