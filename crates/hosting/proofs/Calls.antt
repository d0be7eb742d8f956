-- The host's calls are the plain ones, of the state that its bytes write.
--
--   short_state, short_shown, short_reset == a buffer that is too short is refusal 9
--   plain_step   == with both buffers long enough, a call is the step of the state that the bytes write
--   plain_reset  == with the buffer long enough, a call is the reset
--   plain_number == it answers the number that the step answers
--   plain_bytes  == where the step is taken, the buffers get the bytes of the state and of the line that follow
--   refused_unchanged == a call that answers another number than 0 changes no byte
--   no_state     == bytes that write no state are refusal 10
--   Follows, follows == what a call that was taken started from, and what it leaves
--   step_known   == the bytes that such a call leaves write the state that follows
--   step_call_unique, reset_call_unique == two results that meet a call's contract are equal
--   reset_known  == the bytes that a reset leaves write the reset state, for n from 2 to 16
use Rattle.std.specs.Prelude.{Err, None, Ok, Some}
use Prim.Native.Nat.{ℕ, ◌≤◌, ◌<◌}
use mathlib.Core.Path.{◌≡◌, refl, sym, ◌∙◌}
use mathlib.Core.Bool.{true}
use mathlib.Core.List.{List, ◌++◌}
use native.Mathlib.Omega.{arith}
use borrow.Author.Tests.{lt-ltb, le-ltb}
use lib.ListN.{length, drop}
use Rattle.rules.proofs.Parts.{ok_parts}
use Rattle.rules.specs.declared.Refusal.TheVariants.{Short, State as StateRefusal}
use Rattle.rules.specs.declared.State.{State}
use Rattle.rules.specs.declared.Inputs.{Inputs}
use Rattle.rules.specs.declared.Outputs.{Outputs}
use Rattle.rules.specs.declared.Cycle.{Cycle}
use Rattle.rules.specs.Results.{Answer}
use Rattle.rules.specs.Refusals.{answer_of}
use Rattle.rules.specs.Valid.{cycle_check}
use Rattle.rules.specs.State.{masters_ok, reset_state, reset_of, WellFormed}
use Rattle.rules.specs.Step.{step_of}
use Rattle.rules.proofs.WellFormed.{masters_ok_lem, reset_taken, reset_sound}
use Rattle.rules.proofs.Taken.{taken, decide, next_n}
use Rattle.rules.proofs.Shown.{valid_shown}
use Rattle.rules.proofs.Kept.{kept}
use Rattle.hosting.specs.Results.{Lent, Outcome}
use Rattle.hosting.specs.Bytes.{state_size, state_bytes, bytes_state}
use Rattle.hosting.specs.Calls.{Display, of_answer, of_lent, host_step, host_number, state_stored, cycle_stored, host_state, host_shown, host_reset, host_start, StepCall, ResetCall}
use Rattle.hosting.proofs.Bytes.{state_again}

module _ (d : Display) (state shown : List ℕ) (x : Inputs) where
  pub short_state : length state < state_size → host_step d state shown x ≡ Err Short
  unfolding host_step
  short_state h = simp (lt-ltb (length state) 12 h)

  pub short_shown : state_size ≤ length state → length shown < d.size → host_step d state shown x ≡ Err Short
  unfolding host_step
  short_shown room h = simp (le-ltb (length state) 12 room, lt-ltb (length shown) d.size h)

pub short_reset : (n : ℕ) (state : List ℕ) → length state < state_size → host_reset n state ≡ Err Short
unfolding host_reset
short_reset n state h = simp (lt-ltb (length state) 12 h)

pub plain_reset : (n : ℕ) (state : List ℕ) → state_size ≤ length state → host_reset n state ≡ reset_of n
unfolding host_reset
plain_reset n state room = simp (le-ltb (length state) 12 room)

-- two buffers that are long enough
module _ (d : Display) (state shown : List ℕ) (x : Inputs) (room : state_size ≤ length state) (space : d.size ≤ length shown) where
  pub long_enough : host_step d state shown x ≡ of_lent (bytes_state state) x
  unfolding host_step
  long_enough = simp (le-ltb (length state) 12 room, le-ltb (length shown) d.size space)

  pub plain_step : (s : State) → bytes_state state ≡ Some s → host_step d state shown x ≡ of_answer (step_of s x) x
  unfolding of_lent
  plain_step s e = rw (long_enough, e)

  pub plain_bytes : (s t : State) (o : Outputs) → bytes_state state ≡ Some s → step_of s x ≡ Ok (t, o)
      → (host_state (host_step d state shown x) state ≡ state_bytes t ++ drop state_size state)
      × (host_shown d (host_step d state shown x) shown ≡ d.bytes (record { inputs = x; outputs = o }) ++ drop d.size shown)
  unfolding state_stored cycle_stored
  plain_bytes s t o e f = let u = plain_step s e in (rw (u, f), rw (u, f))

  pub no_state : bytes_state state ≡ None → host_step d state shown x ≡ Err StateRefusal
  unfolding of_lent
  no_state e = rw (long_enough, e)

pub plain_number : (a : Answer) (x : Inputs) → host_number (of_answer a x) ≡ answer_of a
plain_number (Ok (t, o)) x = refl
plain_number (Err (r, t)) x = refl

pub refused_unchanged : (d : Display) (o : Outcome) (state shown : List ℕ) → 1 ≤ host_number o → (host_state o state ≡ state) × (host_shown d o shown ≡ shown)
refused_unchanged d (Ok (t, c)) state shown h = absurd (omega arith)
refused_unchanged d (Err r) state shown h = (refl, refl)

-- the bytes l led to the state t by the inputs x, and c was shown
pub record Follows (l : Lent) (x : Inputs) (t : State) (c : Cycle) : Type 0 where
  pub from : State
  pub known : l ≡ Some from
  pub stepped : step_of from x ≡ Ok (t, c.outputs)
  pub driven : c.inputs ≡ x
  pub sound : WellFormed t
  pub masters : masters_ok t.n ≡ true
  pub valid : cycle_check t.n c ≡ Ok tt

pub follows : (l : Lent) (x : Inputs) (t : State) (c : Cycle) → of_lent l x ≡ Ok (t, c) → Follows l x t c
unfolding of_lent
follows None x t c e = let z : ◌≡◌ {A = ℕ} 0 1 = cc in absurd (omega arith)
follows (Some s) x t c e = go (step_of s x) refl
  where
    go : (a : Answer) → step_of s x ≡ a → Follows (Some s) x t c
    go (Ok (u, o)) p =
        let q = ok_parts (rw p at e) in
        let i : t ≡ u = sym q.0 in
        let j : c ≡ record { inputs = x; outputs = o } = sym q.1 in
        let k = taken s x u o p in
        let w = kept s x u o k in
        rw (i, j)
        (record {
          from = s;
          known = refl;
          stepped = p;
          driven = refl;
          sound = w;
          masters = masters_ok_lem u.n w.few w.many;
          valid = rw (next_n s x u o k) (rw k.shows (valid_shown s x (decide s x) k.sound k.good));
        })
    go (Err (r, u)) p = let q = rw p at e in let z : ◌≡◌ {A = ℕ} 0 1 = cc in absurd (omega arith)

pub step_known : (state : List ℕ) (x : Inputs) (t : State) (c : Cycle) → of_lent (bytes_state state) x ≡ Ok (t, c) → bytes_state (host_state (Ok (t, c)) state) ≡ Some t
unfolding state_stored
step_known state x t c e = state_again t (drop state_size state) (follows (bytes_state state) x t c e).sound

pub reset_known : (n : ℕ) (state : List ℕ) → state_size ≤ length state → 2 ≤ n → n ≤ 16
    → (host_reset n state ≡ Ok (reset_state n)) × (bytes_state (host_start (Ok (reset_state n)) state) ≡ Some (reset_state n))
unfolding state_stored
reset_known n state room few many =
    (plain_reset n state room ∙ reset_taken n few many, state_again (reset_state n) (drop state_size state) (reset_sound n few many))

-- what the calls promise leaves no choice
pub step_call_unique : (d : Display) (x : Inputs) (state shown : List ℕ) (r r' : ℕ) (s s' l l' : List ℕ) → StepCall d x state shown r s l → StepCall d x state shown r' s' l'
    → (r ≡ r') × (s ≡ s') × (l ≡ l')
step_call_unique d x state shown r r' s s' l l' p q = (p.0 ∙ sym q.0, p.1 ∙ sym q.1, p.2 ∙ sym q.2)

pub reset_call_unique : (n : ℕ) (state : List ℕ) (r r' : ℕ) (s s' : List ℕ) → ResetCall n state r s → ResetCall n state r' s' → (r ≡ r') × (s ≡ s')
reset_call_unique n state r r' s s' p q = (p.0 ∙ sym q.0, p.1 ∙ sym q.1)
