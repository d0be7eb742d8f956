-- A step of lent bytes, before it is taken and after.
--
--   Takes h x      == a step of the state h in plain numbers takes the inputs x
--   Enters x S r   == r is the state that the bytes S write, where a step of it takes x, or the refusal of that step
--   Cycled x S o S' == a step of the bytes S by x is taken: it shows o, and the bytes S' have the state after it
--   Cycles x S r S' == r is what a step of the bytes S by x shows, or its refusal, and S' are the bytes after it
--   Small o        == all outputs but HGRANT fit into a byte
use Rattle.std.specs.Prelude.{ℕ, ◌<◌, ◌≡◌, List, Result, Ok, Err, Some, MatchResult}
use Rattle.rules.specs.declared.Refusal.{Refusal}
use Rattle.rules.specs.declared.State.{State}
use Rattle.rules.specs.declared.Inputs.{Inputs}
use Rattle.rules.specs.declared.Outputs.{Outputs}
use Rattle.rules.specs.Codes.{most_cycles}
use Rattle.rules.specs.Valid.{inputs_check}
use Rattle.rules.specs.State.{WellFormed}
use Rattle.buses.specs.Buses.{state_from, Fit}
use Rattle.hosting.specs.Bytes.{state_bytes, bytes_state}
use Rattle.hosting.specs.Calls.{of_lent}
use Rattle.octets.specs.declared.Held.{Held}

pub record Takes (h : Held) (x : Inputs) : Type 0 where
  pub formed : WellFormed (state_from h.n h.bus)
  pub fit : Fit h.bus
  pub room : h.bus.count < most_cycles
  pub good : inputs_check h.n x ≡ Ok tt

pub record Ready (x : Inputs) (S : List ℕ) (h : Held) : Type 0 where
  pub known : bytes_state S ≡ Some (state_from h.n h.bus)
  pub takes : Takes h x

abbrev pub Enters : Inputs → List ℕ → Result Held Refusal → Type 0
Enters x S r = MatchResult r (λ h. Ready x S h) (λ q. of_lent (bytes_state S) x ≡ Err q)

pub record Cycled (x : Inputs) (S : List ℕ) (o : Outputs) (S' : List ℕ) : Type 0 where
  pub next : State
  pub taken : of_lent (bytes_state S) x ≡ Ok (next, record { inputs = x; outputs = o })
  pub stored : S' ≡ state_bytes next

abbrev pub Cycles : Inputs → List ℕ → Result Outputs Refusal → List ℕ → Type 0
Cycles x S r S' = MatchResult r (λ o. Cycled x S o S') (λ q. (of_lent (bytes_state S) x ≡ Err q) × (S' ≡ S))

pub record Small (o : Outputs) : Type 0 where
  pub hmaster : o.hmaster < 256
  pub hmastlock : o.hmastlock < 256
  pub decide : o.decide < 256
  pub granted : o.granted < 256
  pub busreq : o.busreq < 256
