-- The tests of a glance all give 0 exactly where the line is read.
--
--   masters_below == n is 16 at most
--   stimulus_good_seen, stimulus_bad_seen == of a stimulus line
--   trace_good_seen, trace_bad_seen       == of a trace line
use Rattle.std.proofs.Common.{◌≡◌, ℕ, ◌/◌, ◌^◌, ◌<◌, ◌≤◌, Bool, true, false, ◌&&◌, eqb, ltb, ◌↔◌, List, length, get_or, sym, refl, ap, ◌∙◌, arith, ltb-true, lt-ltb, eq-eqb, eqb-true, Ok, Some, None}
use lib.Bits.{bit_or, or_lt}
use Rattle.rules.specs.declared.Inputs.{Inputs}
use Rattle.rules.specs.declared.Outputs.{Outputs}
use Rattle.rules.specs.declared.Cycle.{Cycle}
use Rattle.rules.specs.State.{masters_ok}
use Rattle.rules.proofs.Choice.{differ, and_both, and_left, and_right}
use Rattle.rules.proofs.Flags.{or_none_lem}
use Rattle.formats.specs.Digits.{tab, lf, number_at}
use Rattle.formats.specs.Files.{one, as_stimulus, as_trace}
use Rattle.formats.specs.Lines.{inputs_at, outputs_at, read_stimulus_of, read_trace_of}
use Rattle.formats.proofs.Limits.{ok_range}
use Rattle.formats.proofs.Lines.{stimulus, trace, stimulus_reading, trace_reading, stimulus_answer_lem, trace_answer_lem}
use Rattle.glances.specs.declared.codes.Codes.{Codes}
use Rattle.glances.specs.declared.codes.Flags.{Flags}
use Rattle.glances.specs.Glances.{digit_of, MaskSeen, CodesAt, CodesSeen, FlagsAt, FlagsSeen}
use Rattle.glances.specs.Sees.{SeesStimulus, SeesTrace}
use Rattle.glances.proofs.Bits.{or_below, or_zero, within, without}
use Rattle.glances.proofs.Columns.{small_column, column_char, digit_column, column_digit}
use Rattle.glances.proofs.Valid.{masks_below, InputsWithin, OutputsWithin, inputs_pass, inputs_passed, cycle_pass, cycle_passed}
use Rattle.glances.proofs.Begins.{line_reads, line_read}

pub masters_below : (n : ℕ) → masters_ok n ≡ true → n ≤ 16
masters_below n ok = (ok_range n ok).many

module _ {A : Type 0} (a : A) where
  some_none : Some a ≡ None → ⊥
  some_none q = let z : ◌≡◌ {A = ℕ} 0 1 = cc in omega arith

  none_some : None ≡ Some a → ⊥
  none_some q = let z : ◌≡◌ {A = ℕ} 0 1 = cc in omega arith

abbrev inputs_of : ℕ → ℕ → Codes → Inputs
inputs_of hbusreq hlock c =
    record { hbusreq = hbusreq; hlock = hlock; hready = c.hready; htrans = c.htrans; hburst = c.hburst }

abbrev outputs_of : ℕ → ℕ → Flags → Outputs
outputs_of hgrant hmaster f =
    record {
      hgrant = hgrant;
      hmaster = hmaster;
      hmastlock = f.hmastlock;
      decide = f.decide;
      granted = f.granted;
      busreq = f.busreq;
    }

module _ (n : ℕ) (s : List ℕ) (ok : masters_ok n ≡ true) where
  small : 2 ^ n ≤ 65536
  small = masks_below n (masters_below n ok)

  -- a mask that was seen, and the one that stands there
  module _ (p m : ℕ) (seen : MaskSeen s p m) where
    mask_found : m < 2 ^ n → m ≡ number_at 4 s p
    mask_found h = seen.found (omega (arith, small))

    mask_sure : number_at 4 s p < 2 ^ n → m < 2 ^ n
    mask_sure h = rw (seen.sure (omega (arith, small))) h

  module _ (hbusreq hlock after : ℕ) (c : Codes) (requests : MaskSeen s 0 hbusreq) (locks : MaskSeen s 5 hlock) (codes : CodesSeen s after c) where
    record InputsFound : Type 0 where
      here : inputs_at s 0 ≡ inputs_of hbusreq hlock c
      range : InputsWithin n (inputs_of hbusreq hlock c)
      at : CodesAt s after c

    inputs_found : c.bad ≡ 0 → hbusreq < 2 ^ n → hlock < 2 ^ n → InputsFound
    inputs_found e b l =
        let f = codes.found e in
        let v = f.0 in
        let at = f.1 in
        let eb : hbusreq ≡ number_at 4 s 0 = mask_found 0 hbusreq requests b in
        let el : hlock ≡ number_at 4 s 5 = mask_found 5 hlock locks l in
        let er : c.hready ≡ number_at 1 s 10 = small_column s 10 c.hready at.ready (omega arith) in
        let et : c.htrans ≡ number_at 1 s 12 = small_column s 12 c.htrans at.trans (omega arith) in
        let eu : c.hburst ≡ number_at 1 s 14 = small_column s 14 c.hburst at.burst (omega arith) in
        record {
          here = cc;
          range = record { requests = b; locks = l; ready = v.ready; trans = v.trans; burst = v.burst; built = v.built };
          at = at;
        }

    record InputsSure : Type 0 where
      none : c.bad ≡ 0
      asked : hbusreq < 2 ^ n
      locked : hlock < 2 ^ n

    inputs_sure : InputsWithin n (inputs_at s 0) → get_or s 9 0 ≡ tab → get_or s 11 0 ≡ tab → get_or s 13 0 ≡ tab → get_or s 15 0 ≡ after → InputsSure
    inputs_sure w t9 t11 t13 t15 =
        record {
          none = codes.sure
              (record { bad = 0; hready = number_at 1 s 10; htrans = number_at 1 s 12; hburst = number_at 1 s 14 })
              (record { ready = w.ready; trans = w.trans; burst = w.burst; built = w.built })
              (record {
                before = t9;
                ready = column_char s 10 (number_at 1 s 10) refl (omega (arith, w.ready));
                between = t11;
                trans = column_char s 12 (number_at 1 s 12) refl (omega (arith, w.trans));
                between_2 = t13;
                burst = column_char s 14 (number_at 1 s 14) refl (omega (arith, w.burst));
                behind = t15;
              });
          asked = mask_sure 0 hbusreq requests w.requests;
          locked = mask_sure 5 hlock locks w.locks;
        }

  module _ (hgrant hmaster : ℕ) (f : Flags) (grants : MaskSeen s 16 hgrant) (owner : hmaster ≡ digit_of (get_or s 21 0)) (flags : FlagsSeen s f) where
    record OutputsFound : Type 0 where
      here : outputs_at s 0 ≡ outputs_of hgrant hmaster f
      range : OutputsWithin n (outputs_of hgrant hmaster f)
      at : FlagsAt s f

    outputs_found : f.bad ≡ 0 → hgrant < 2 ^ n → hmaster < n → OutputsFound
    outputs_found e g o =
        let r = flags.found e in
        let v = r.0 in
        let at = r.1 in
        let eg : hgrant ≡ number_at 4 s 16 = mask_found 16 hgrant grants g in
        let eo : hmaster ≡ number_at 1 s 21 = digit_column s 21 hmaster owner (omega (arith, masters_below n ok)) in
        let el : f.hmastlock ≡ number_at 1 s 23 = small_column s 23 f.hmastlock at.lock (omega arith) in
        let ed : f.decide ≡ number_at 1 s 25 = small_column s 25 f.decide at.decide (omega arith) in
        let er : f.granted ≡ number_at 1 s 27 = small_column s 27 f.granted at.granted (omega arith) in
        let eb : f.busreq ≡ number_at 1 s 29 = small_column s 29 f.busreq at.request (omega arith) in
        record {
          here = cc;
          range = record { grant = g; owner = o; lock = v.lock; decide = v.decide; granted = v.granted; request = v.request };
          at = at;
        }

    record OutputsSure : Type 0 where
      none : f.bad ≡ 0
      granting : hgrant < 2 ^ n
      owned : hmaster < n

    outputs_sure : OutputsWithin n (outputs_at s 0) → get_or s 24 0 ≡ tab → get_or s 26 0 ≡ tab → get_or s 28 0 ≡ tab → get_or s 30 0 ≡ lf → OutputsSure
    outputs_sure w t24 t26 t28 t30 =
        record {
          none = flags.sure
              (record { bad = 0; hmastlock = number_at 1 s 23; decide = number_at 1 s 25; granted = number_at 1 s 27; busreq = number_at 1 s 29 })
              (record { lock = w.lock; decide = w.decide; granted = w.granted; request = w.request })
              (record {
                lock = column_char s 23 (number_at 1 s 23) refl (omega (arith, w.lock));
                between = t24;
                decide = column_char s 25 (number_at 1 s 25) refl (omega (arith, w.decide));
                between_2 = t26;
                granted = column_char s 27 (number_at 1 s 27) refl (omega (arith, w.granted));
                between_3 = t28;
                request = column_char s 29 (number_at 1 s 29) refl (omega (arith, w.request));
                behind = t30;
              });
          granting = mask_sure 16 hgrant grants w.grant;
          owned = rw (column_digit s 21 hmaster owner (omega (arith, w.owner, masters_below n ok))) w.owner;
        }

  module _ (hbusreq hlock : ℕ) (c : Codes) (requests : MaskSeen s 0 hbusreq) (locks : MaskSeen s 5 hlock) (codes : CodesSeen s lf c)
      (apart : ℕ) (tabbed : (apart ≡ 0) ↔ (get_or s 4 0 ≡ tab)) (room : 16 ≤ length s) where
    abbrev stimulus_good : Bool
    stimulus_good = eqb (bit_or (bit_or c.bad (bit_or hbusreq hlock / 2 ^ n)) apart) 0

    stimulus_line_lem : stimulus_good ≡ true → read_stimulus_of n s 0 ≡ Ok (Some (inputs_of hbusreq hlock c, 16))
    stimulus_line_lem e =
        let x : Inputs = inputs_of hbusreq hlock c in
        let j = or_none_lem (bit_or c.bad (bit_or hbusreq hlock / 2 ^ n)) apart (eqb-true _ _ e) in
        let k = or_none_lem c.bad (bit_or hbusreq hlock / 2 ^ n) j.0 in
        let m = or_below (2 ^ n) hbusreq hlock (within n (bit_or hbusreq hlock) k.1) in
        let f = inputs_found hbusreq hlock lf c requests locks codes k.0 m.0 m.1 in
        let at = f.at in
        stimulus_answer_lem n s 0 (one x 16)
        (line_reads stimulus n s x ok room
        (record {
          apart = (tabbed.0 j.1, (at.before, (at.between, (at.between_2, (at.behind, tt)))));
          here = f.here;
          good = inputs_pass n (masters_below n ok) x f.range;
        }))

    stimulus_sure : (y : Inputs) (k : ℕ) → read_stimulus_of n s 0 ≡ Ok (Some (y, k)) → stimulus_good ≡ true
    stimulus_sure y k e =
        let b = line_read stimulus n s y k (sym (stimulus_reading n s 0) ∙ ap as_stimulus e) in
        let p = b.apart in
        let w : InputsWithin n (inputs_at s 0) = rw b.here (inputs_passed n y b.good) in
        let g = inputs_sure hbusreq hlock lf c requests locks codes w p.1.0 p.1.1.0 p.1.1.1.0 p.1.1.1.1.0 in
        let absent : bit_or hbusreq hlock / 2 ^ n ≡ 0 = without n (bit_or hbusreq hlock) (or_lt n hbusreq hlock g.asked g.locked) in
        eq-eqb _ _ (or_zero (or_zero g.none absent) (tabbed.1 p.0))

    pub stimulus_good_seen : stimulus_good ≡ true → SeesStimulus n s (Some (inputs_of hbusreq hlock c))
    stimulus_good_seen g = record { line = λ x q. let e : inputs_of hbusreq hlock c ≡ x = cc in rw (← e) (stimulus_line_lem g); none = λ q. absurd (some_none _ q) }

    pub stimulus_bad_seen : stimulus_good ≡ false → SeesStimulus n s None
    stimulus_bad_seen e = record { line = λ x q. absurd (none_some x q); none = λ q y k r. differ stimulus_good (stimulus_sure y k r) e }

  module _ (hbusreq hlock : ℕ) (c : Codes) (requests : MaskSeen s 0 hbusreq) (locks : MaskSeen s 5 hlock) (codes : CodesSeen s tab c)
      (hgrant hmaster : ℕ) (f : Flags) (grants : MaskSeen s 16 hgrant) (owner : hmaster ≡ digit_of (get_or s 21 0)) (flags : FlagsSeen s f)
      (first second third : ℕ) (tab4 : (first ≡ 0) ↔ (get_or s 4 0 ≡ tab)) (tab20 : (second ≡ 0) ↔ (get_or s 20 0 ≡ tab)) (tab22 : (third ≡ 0) ↔ (get_or s 22 0 ≡ tab))
      (room : 31 ≤ length s) where
    abbrev masks : ℕ
    masks = bit_or (bit_or hbusreq hlock) hgrant

    abbrev bads : ℕ
    bads = bit_or c.bad f.bad

    abbrev aparts : ℕ
    aparts = bit_or (bit_or first second) third

    abbrev tests : ℕ
    tests = bit_or (bit_or bads (masks / 2 ^ n)) aparts

    abbrev trace_good : Bool
    trace_good = eqb tests 0 && ltb hmaster n

    abbrev cycle : Cycle
    cycle = record { inputs = inputs_of hbusreq hlock c; outputs = outputs_of hgrant hmaster f }

    trace_line_lem : trace_good ≡ true → read_trace_of n s 0 ≡ Ok (Some (cycle, 31))
    trace_line_lem e =
        let z = or_none_lem (bit_or bads (masks / 2 ^ n)) aparts (eqb-true tests 0 (and_left (eqb tests 0) (ltb hmaster n) e)) in
        let o : hmaster < n = ltb-true hmaster n (and_right (eqb tests 0) (ltb hmaster n) e) in
        let k = or_none_lem bads (masks / 2 ^ n) z.0 in
        let b = or_none_lem c.bad f.bad k.0 in
        let t = or_none_lem (bit_or first second) third z.1 in
        let u = or_none_lem first second t.0 in
        let g = or_below (2 ^ n) (bit_or hbusreq hlock) hgrant (within n masks k.1) in
        let m = or_below (2 ^ n) hbusreq hlock g.0 in
        let x = inputs_found hbusreq hlock tab c requests locks codes b.0 m.0 m.1 in
        let y = outputs_found hgrant hmaster f grants owner flags b.1 g.1 o in
        let at = x.at in
        let more = y.at in
        let hx = x.here in
        let hy = y.here in
        trace_answer_lem n s 0 (one cycle 31)
        (line_reads trace n s cycle ok room
        (record {
          apart = (
            tab4.0 u.0,
            (
              at.before,
              (
                at.between,
                (
                  at.between_2,
                  (
                    at.behind,
                    (tab20.0 u.1, (tab22.0 t.1, (more.between, (more.between_2, (more.between_3, (more.behind, tt)))))),
                  ),
                ),
              ),
            ),
          );
          here = cc;
          good = cycle_pass n (masters_below n ok) cycle x.range y.range;
        }))

    trace_sure : (d : Cycle) (k : ℕ) → read_trace_of n s 0 ≡ Ok (Some (d, k)) → trace_good ≡ true
    trace_sure d k e =
        let b = line_read trace n s d k (sym (trace_reading n s 0) ∙ ap as_trace e) in
        let p = b.apart in
        let q = p.1.1.1.1.1 in
        let r = cycle_passed n d b.good in
        let w : InputsWithin n (inputs_at s 0) = rw (ap (λ v. v.inputs) b.here) r.0 in
        let v : OutputsWithin n (outputs_at s 0) = rw (ap (λ v. v.outputs) b.here) r.1 in
        let g = inputs_sure hbusreq hlock tab c requests locks codes w p.1.0 p.1.1.0 p.1.1.1.0 p.1.1.1.1.0 in
        let h = outputs_sure hgrant hmaster f grants owner flags v q.1.1.0 q.1.1.1.0 q.1.1.1.1.0 q.1.1.1.1.1.0 in
        let absent : masks / 2 ^ n ≡ 0 =
        without n masks (or_lt n (bit_or hbusreq hlock) hgrant (or_lt n hbusreq hlock g.asked g.locked) h.granting) in
        and_both
        (eq-eqb tests 0
        (or_zero (or_zero (or_zero g.none h.none) absent) (or_zero (or_zero (tab4.1 p.0) (tab20.1 q.0)) (tab22.1 q.1.0))))
        (lt-ltb hmaster n h.owned)

    pub trace_good_seen : trace_good ≡ true → SeesTrace n s (Some cycle)
    trace_good_seen g = record { line = λ d q. let e : cycle ≡ d = cc in rw (← e) (trace_line_lem g); none = λ q. absurd (some_none _ q) }

    pub trace_bad_seen : trace_good ≡ false → SeesTrace n s None
    trace_bad_seen e = record { line = λ x q. absurd (none_some x q); none = λ q d k r. differ trace_good (trace_sure d k r) e }
