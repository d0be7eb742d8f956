-- The ends of the calls, over plain values: S and L are the lent buffers, which begin with the bytes h and l, and v is a call's verdict.
--
--   enter_unknown, enter_full, enter_refused, enter_ready == the ends of the tests of a step
--   many           == so many masters has the state of bytes
--   next_formed, cycled == a cycle that is taken
--   state_whole, first_long == what is stored in twelve bytes, and that the first twelve are so many
--   small, needs   == what is asked of the outputs and the inputs, to write them
--   step_short_state, step_short_shown, step_refused, step_taken == the ends of a step, whatever it shows
--   line_written   == the line of a cycle
--   ready_sound    == a reset that is not refused gives a well-formed state
--   reset_short, reset_refused, reset_ready == the ends of a reset
use Rattle.std.specs.Prelude.{Result, Some, None, Ok, Err}
use Prim.Native.Nat.{ℕ, ◌≤◌, ◌<◌}
use mathlib.Core.Path.{◌≡◌, refl, sym, ◌∙◌, ap}
use mathlib.Core.Bool.{Bool, true, false}
use mathlib.Core.List.{List, [], ◌++◌, append-nil}
use native.Mathlib.Omega.{arith}
use lib.ListN.{length, get_or, take, drop, drop_of_length-le}
use lib.Seq.{sets, sets-eq, length-take-le}
use Rattle.std.proofs.lemmas.Option.{same_Some}
use Rattle.rules.specs.declared.Refusal.{Refusal}
use Rattle.rules.specs.declared.Refusal.TheVariants as refusal
use Rattle.rules.specs.Results.{Check}
use Rattle.rules.specs.declared.State.{State}
use Rattle.rules.specs.declared.Inputs.{Inputs}
use Rattle.rules.specs.declared.Outputs.{Outputs}
use Rattle.rules.specs.declared.Cycle.{Cycle}
use Rattle.rules.specs.Codes.{most_cycles}
use Rattle.rules.specs.Valid.{inputs_check}
use Rattle.rules.specs.State.{reset_of, well_formed, WellFormed}
use Rattle.rules.specs.Step.{step_of}
use Rattle.rules.proofs.Choice.{and_left, and_right}
use Rattle.rules.proofs.WellFormed.{facts_of, test_of, reset_is, reset_sound}
use Rattle.rules.proofs.Taken.{taken}
use Rattle.rules.proofs.Kept.{kept}
use Rattle.rulebook.specs.Results.{Verdict}
use Rattle.rulebook.specs.Step.{number_of}
use Rattle.arbitration.proofs.Close.{malformed, full, bad}
use Rattle.formats.specs.Lines.{trace_line}
use Rattle.words.proofs.Words.{put_back}
use Rattle.buses.specs.Buses.{state_from}
use Rattle.hosting.specs.Results.{Lent}
use Rattle.hosting.specs.Bytes.{state_bytes, is_state, state_in, bytes_state}
use Rattle.hosting.specs.Calls.{Display, of_answer, of_lent, host_step, state_stored, cycle_stored, StepCall, ResetCall}
use Rattle.hosting.proofs.Bytes.{first_state}
use Rattle.hosting.proofs.Calls.{short_state, short_shown, short_reset, plain_reset, long_enough, follows}
use Rattle.octets.specs.declared.Held.{Held}
use Rattle.octets.specs.Octets.{sound_in, Holds}
use Rattle.glances.specs.Glances.{Driven}
use Rattle.glances.proofs.Shown.{driven}
use Rattle.prints.specs.Prints.{Fits}
use Rattle.host.specs.Entry.{Ready, Enters, Cycled, Small}
use Rattle.host.proofs.Inputs.{fits_of}

-- bytes that no well-formed state has
unsound : (S : List ℕ) (x : Inputs) → sound_in S ≡ false → of_lent (bytes_state S) x ≡ Err refusal.State
unfolding sound_in bytes_state of_lent
unsound S x e = go (is_state S) refl
  where
    go : (t : Bool) → is_state S ≡ t → of_lent (bytes_state S) x ≡ Err refusal.State
    go true p =
        let f : well_formed (state_in S) ≡ false = rw p at e in
        let q = malformed (state_in S) x false (sym f) refl in
        rw (p, ← q)
    go false p = rw p

-- bytes that a well-formed state has
record Sound (S : List ℕ) : Type 0 where
  known : bytes_state S ≡ Some (state_in S)
  formed : WellFormed (state_in S)

sound : (S : List ℕ) → sound_in S ≡ true → Sound S
unfolding sound_in bytes_state
sound S e =
    let p = and_left (is_state S) (well_formed (state_in S)) e in
    record { known = rw p; formed = facts_of (state_in S) (and_right (is_state S) (well_formed (state_in S)) e) }

-- the tests of a step
module _ (x : Inputs) (S : List ℕ) where
  pub enter_unknown : (r : Result Held Refusal) → sound_in S ≡ false → r ≡ Err refusal.State → Enters x S r
  enter_unknown r e is = rw is (unsound S x e)

  -- h is what is seen of S
  module _ (h : Held) (w : Holds S h) where
    abbrev here : State
    here = state_from h.n h.bus

    known : bytes_state S ≡ Some here
    known = (sound S w.sound).known ∙ ap Some (sym w.known)

    formed : WellFormed here
    formed = rw w.known (sound S w.sound).formed

    pub many : h.n ≤ 16
    many = formed.many

    stepped : of_lent (bytes_state S) x ≡ of_answer (step_of here x) x
    unfolding of_lent
    stepped = rw known

    pub enter_full : most_cycles ≤ h.bus.count → of_lent (bytes_state S) x ≡ Err refusal.Full
    enter_full e = let q = full here x true (sym (test_of here formed)) refl e in rw (stepped, ← q)

    module _ (room : h.bus.count < most_cycles) where
      -- c is the check of the inputs
      pub enter_refused : (r : Result Held Refusal) (c : Check) (q : Refusal) → c ≡ inputs_check h.n x → c ≡ Err q → r ≡ Err q → Enters x S r
      enter_refused r c q e f is = let b = bad here x c q formed room e f in rw is (rw (stepped, ← b))

      pub enter_ready : inputs_check h.n x ≡ Ok tt → Ready x S h
      enter_ready good = record { known = known; takes = record { formed = formed; fit = w.fit; room = room; good = good } }

-- a cycle that is taken
pub next_formed : (s t : State) (x : Inputs) (o : Outputs) → step_of s x ≡ Ok (t, o) → WellFormed t
next_formed s t x o e = kept s x t o (taken s x t o e)

pub cycled : (x : Inputs) (S : List ℕ) (h : Held) (t : State) (o : Outputs) (S' : List ℕ) → Ready x S h → step_of (state_from h.n h.bus) x ≡ Ok (t, o)
    → S' ≡ state_bytes t → Cycled x S o S'
unfolding of_lent
cycled x S h t o S' r e p = record { next = t; taken = rw (r.known, e); stored = p }

-- the state that bytes write has its grant in the second
grant_of : (S : List ℕ) (s : State) → bytes_state S ≡ Some s → s.g ≡ get_or S 1 0
unfolding bytes_state state_in
grant_of S s e = go (is_state S) refl
  where
    go : (b : Bool) → is_state S ≡ b → s.g ≡ get_or S 1 0
    go true p = let q : Some (state_in S) ≡ Some s = sym (rw p) ∙ e in ap (λ (t : State). t.g) (sym (same_Some _ _ q))
    go false p = let q : None ≡ Some s = sym (rw p) ∙ e in let z : ◌≡◌ {A = ℕ} 0 1 = cc in absurd (omega arith)

module _ (x : Inputs) (S : List ℕ) (o : Outputs) (S' : List ℕ) (k : Cycled x S o S') where
  drives : Driven (get_or S 1 0) o
  drives =
      let f = follows (bytes_state S) x k.next _ k.taken in
      rw (grant_of S f.from f.known) at (driven f.from k.next x o f.stepped)

  pub needs : (g : ℕ) → g ≡ get_or S 1 0 → Fits x × Driven g o
  needs g e =
      let f = follows (bytes_state S) x k.next _ k.taken in
      let w = taken f.from x k.next o f.stepped in
      (fits_of f.from.n x w.sound.many w.good, rw e drives)

  pub small : Small o
  small =
      let d = drives in
      record {
        hmaster = omega (arith, d.owner);
        hmastlock = omega (arith, d.lock);
        decide = omega (arith, d.decide);
        granted = omega (arith, d.granted);
        busreq = omega (arith, d.request);
      }

-- what is stored in a buffer that is just so long
pub state_whole : (s : State) (h : List ℕ) → length h ≡ 12 → state_stored s h ≡ state_bytes s
unfolding state_stored
state_whole s h e = let none : drop 12 h ≡ [] = drop_of_length-le h {i = 12} (omega arith) in rw none (append-nil (state_bytes s))

pub first_long : (S h : List ℕ) → 12 ≤ length S → h ≡ take 12 S → length h ≡ 12
first_long S h room e = rw e (length-take-le 12 S room)

-- a step
module _ (d : Display) (x : Inputs) (S L : List ℕ) (v : Verdict) where
  pub step_short_state : length S < 12 → v ≡ Err refusal.Short → StepCall d x S L (number_of v) S L
  step_short_state h is = let e = short_state d S L x h in (rw (e, is), rw e, rw e)

  module _ (room : 12 ≤ length S) (h : List ℕ) (first : h ≡ take 12 S) where
    pub step_short_shown : length L < d.size → v ≡ Err refusal.Short → StepCall d x S L (number_of v) (h ++ drop 12 S) L
    step_short_shown k is = let e = short_shown d S L x room k in (rw (e, is), rw e (put_back 12 S h first), rw e)

    module _ (space : d.size ≤ length L) where
      -- the bytes are read as they are, whatever follows them
      read : host_step d S L x ≡ of_lent (bytes_state h) x
      read = long_enough d S L x room space ∙ ap (λ (b : Lent). of_lent b x) (rw first (sym (first_state S)))

      pub step_refused : (h' l : List ℕ) (q : Refusal) → of_lent (bytes_state h) x ≡ Err q → h' ≡ h → l ≡ take d.size L → v ≡ Err q
          → StepCall d x S L (number_of v) (h' ++ drop 12 S) (l ++ drop d.size L)
      step_refused h' l q e same second is =
          let u = read ∙ e in
          (rw (u, is), rw u (put_back 12 S h' (same ∙ first)), rw u (put_back d.size L l second))

      pub step_taken : (h' l : List ℕ) (o : Outputs) → Cycled x h o h' → l ≡ d.bytes (record { inputs = x; outputs = o })
          → StepCall d x S L 0 (h' ++ drop 12 S) (l ++ drop d.size L)
      unfolding state_stored cycle_stored
      step_taken h' l o k e =
          let u = read ∙ k.taken in
          (rw u, rw (u, k.stored) refl, rw (u, e) refl)

pub line_written : (c : Cycle) (l l' : List ℕ) → length l ≡ 31 → l' ≡ sets l 0 (trace_line c) → l' ≡ trace_line c
line_written c l l' size e =
    let none : drop 31 l ≡ [] = drop_of_length-le l {i = 31} (omega arith) in
    e ∙ sets-eq (trace_line c) l 0 (omega arith) ∙ rw none (append-nil (trace_line c))

-- a reset
pub ready_sound : (n : ℕ) (s : State) → Ok s ≡ reset_of n → WellFormed s
ready_sound n s e =
    let b = reset_is n s (sym e) in
    rw b.is (reset_sound n b.few b.many)

module _ (n : ℕ) (S : List ℕ) (v : Verdict) where
  pub reset_short : length S < 12 → v ≡ Err refusal.Short → ResetCall n S (number_of v) S
  reset_short h is = let e = short_reset n S h in (rw (e, is), rw e)

  module _ (room : 12 ≤ length S) where
    pub reset_refused : (h : List ℕ) (q : Refusal) → h ≡ take 12 S → reset_of n ≡ Err q → v ≡ Err q → ResetCall n S (number_of v) (h ++ drop 12 S)
    reset_refused h q first e is = let u = plain_reset n S room ∙ e in (rw (u, is), rw u (put_back 12 S h first))

    -- t is the state s, by its numbers
    pub reset_ready : (h : List ℕ) (s t : State) → reset_of n ≡ Ok s → t ≡ s → h ≡ state_bytes t → ResetCall n S 0 (h ++ drop 12 S)
    unfolding state_stored
    reset_ready h s t e f p = let u = plain_reset n S room ∙ e in (rw u, rw (u, p, f) refl)
