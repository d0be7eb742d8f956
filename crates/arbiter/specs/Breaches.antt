-- The arbiter program names no breach.
use Rattle.std.specs.Prelude.{ℕ}
use Rattle.rules.specs.declared.State.{State}

abbrev pub no_breach : State → ℕ
no_breach s = 0
