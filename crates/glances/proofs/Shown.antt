-- What a step shows.
--
--   driven          == it is what an arbiter drives
use Rattle.std.proofs.Common.{◌≡◌, refl, arith, Ok}
use Rattle.rules.specs.declared.State.{State}
use Rattle.rules.specs.declared.Inputs.{Inputs}
use Rattle.rules.specs.declared.Outputs.{Outputs}
use Rattle.rules.specs.Phase.{seen}
use Rattle.rules.specs.Step.{shown, step_of}
use Rattle.rules.proofs.Flags.{flag_most}
use Rattle.rules.proofs.Taken.{decide, taken}
use Rattle.glances.specs.Glances.{Driven}

pub driven : (s t : State) (x : Inputs) (o : Outputs) → step_of s x ≡ Ok (t, o) → Driven s.g o
unfolding shown
driven s t x o e =
    let k = taken s x t o e in
    rw k.shows
    (record {
      below = omega (arith, k.sound.grant, k.sound.many);
      grant = refl;
      owner = omega (arith, k.sound.owner, k.sound.many);
      lock = flag_most s.hmastlock;
      decide = flag_most (decide s x);
      granted = flag_most s.granted;
      request = flag_most (seen s x).request;
    })
