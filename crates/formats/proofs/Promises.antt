-- The promises of specs/Promises.antt, each under its name.
use Rattle.std.specs.Prelude.{Ok}
use Prim.Native.Nat.{ℕ, ◌^◌, ◌<◌}
use mathlib.Core.Path.{◌≡◌, refl, sym, ◌∙◌, ap}
use mathlib.Core.List.{List, [], ◌∷◌, ◌++◌, append_cancel_left}
use native.Mathlib.Omega.{arith}
use lib.ListN.{length}
use Rattle.rules.specs.declared.Refusal.TheVariants as refusal
use Rattle.rules.specs.Refusals.{number_of}
use Rattle.rules.specs.Valid.{inputs_check, cycle_check}
use Rattle.formats.specs.declared.Word.{Word}
use Rattle.formats.specs.declared.Word.TheVariants.{Stim, Trace}
use Rattle.formats.specs.Digits.{tab, lf, hex_char, decimal_before, decimal}
use Rattle.formats.specs.Columns.{input_columns, cycle_columns, input_values, cycle_values}
use Rattle.formats.specs.Lines.{stimulus_fields, trace_fields, stimulus_line, trace_line, read_stimulus_of, read_trace_of, for_masters, write_stimulus_of, stimulus_written, write_trace_of, trace_written}
use Rattle.formats.specs.Headers.{prefix, header, number_in, read_header_of, write_header_of, header_written}
use Rattle.formats.specs.Report.{rule_name, breach_line, end_word, end_line, refused_word, refused_line}
use Rattle.formats.specs.Files.{no_more, refused, as_stimulus, as_trace, read_stimulus_file, read_trace_file}
use Rattle.formats.specs.Texts.{bytes}
use Rattle.formats.specs.Promises as promise
use Rattle.formats.proofs.Hex.{top_no_digit, no_digit_top}
use Rattle.formats.proofs.Bytes.{each_map}
use Rattle.formats.proofs.Decimal.{in_decimal, number_before}
use Rattle.formats.proofs.Limits.{valid_line, line_valid}
use Rattle.formats.proofs.Reading.{whole_place, written_reads, read_writes, reads_end, end_range, end_read, unread_refused}
use Rattle.formats.proofs.Lines.{stimulus, trace, stimulus_reading, trace_reading, stimulus_answer_lem, trace_answer_lem}
use Rattle.formats.proofs.Headers.{header_reads, header_writes}
use Rattle.formats.proofs.Files.{read_file, file_of_lem, file_reads, file_writes, file_refused}
use Rattle.formats.proofs.Answers.{header_number, stimulus_number, trace_number, written_number, stimulus_ended, trace_ended}
use Rattle.formats.proofs.Ends.{bare, after, prefix_plain, name_plain, number_ends, number_then, fields_closed, write_ends}
use Rattle.formats.proofs.Report.{refusal_bound, refusal_same, name_tells}
use Rattle.formats.proofs.Buffers.{writes}

pub refused_by_number : promise.RefusedByNumber
refused_by_number =
    record {
      header_read = λ a r. header_number r a;
      stimulus_read_lem = λ a r. stimulus_number r a;
      trace_read_lem = λ a r. trace_number r a;
      line_written = λ a r. written_number r a;
    }

pub line_lengths : promise.LineLengths
line_lengths = record { stimulus_line_lem = λ x. refl; trace_line_lem = λ c. refl }

pub written_stimulus_line_reads : promise.WrittenStimulusLineReads
written_stimulus_line_reads n x pre post range valid =
    stimulus_answer_lem n _ _ _ (written_reads stimulus n x pre post range valid)

pub written_trace_line_reads : promise.WrittenTraceLineReads
written_trace_line_reads n c pre post range valid =
    trace_answer_lem n _ _ _ (written_reads trace n c pre post range (valid_line n c range.many valid))

pub read_stimulus_line_writes : promise.ReadStimulusLineWrites
read_stimulus_line_writes n s p x next e =
    let w = read_writes stimulus n s p x next (sym (stimulus_reading n s p) ∙ ap as_stimulus e) in
    (w.range, w.valid, w.past, w.bytes)

pub read_trace_line_writes : promise.ReadTraceLineWrites
read_trace_line_writes n s p c next e =
    let w = read_writes trace n s p c next (sym (trace_reading n s p) ∙ ap as_trace e) in
    (w.range, line_valid n c w.valid, w.past, w.bytes)

pub no_more_at_the_end : promise.NoMoreAtTheEnd
no_more_at_the_end =
    record {
      stimulus_line_lem = λ n s range. stimulus_answer_lem n s (length s) no_more (reads_end stimulus n s range);
      trace_line_lem = λ n s range. trace_answer_lem n s (length s) no_more (reads_end trace n s range);
      stimulus_only = λ n s p e.
          let f = sym (stimulus_reading n s p) ∙ stimulus_ended (read_stimulus_of n s p) e in
          (end_range stimulus n s p f, end_read stimulus n s p f);
      trace_only = λ n s p e.
          let f = sym (trace_reading n s p) ∙ trace_ended (read_trace_of n s p) e in
          (end_range trace n s p f, end_read trace n s p f);
    }

pub top_is_no_digit : promise.TopIsNoDigit
top_is_no_digit w s p = (top_no_digit w s p, no_digit_top w s p)

pub bad_character_refused : promise.BadCharacterRefused
bad_character_refused =
    record {
      stimulus_line_lem = λ n s p range all bad.
          stimulus_answer_lem n s p (refused refusal.Value)
          (unread_refused stimulus n s p range (whole_place stimulus_fields s p all) bad);
      trace_line_lem = λ n s p range all bad.
          trace_answer_lem n s p (refused refusal.Value)
          (unread_refused trace n s p range (whole_place trace_fields s p all) bad);
    }

pub written_header_reads : promise.WrittenHeaderReads
written_header_reads w n rest range = header_reads w n rest range

pub read_header_writes : promise.ReadHeaderWrites
read_header_writes w s n next e = let h = header_writes w s n next e in (h.range, h.past, h.bytes)

pub other_word_refused : promise.OtherWordRefused
unfolding header read_header_of
other_word_refused Stim n rest = refl
other_word_refused Trace n rest = refl

each_word : (P : Word → Type 0) → P Stim → P Trace → (w : Word) → P w
each_word P p q Stim = p
each_word P p q Trace = q

-- both sides of the tables compute
pub header_shapes : promise.HeaderShapes
unfolding bytes number_in read_header_of
header_shapes =
    record {
      after_the_word = each_word _ refl refl;
      of_a_trace = refl;
    }

pub printed_as_text : promise.PrintedAsText
unfolding bytes hex_char decimal_before header breach_line end_line refused_line
printed_as_text = record { rule_names = refl; lines = refl }

stimulus_file_lem : (s : List ℕ) → read_stimulus_file s ≡ read_file Stim stimulus s
unfolding read_stimulus_file
stimulus_file_lem s = file_of_lem Stim stimulus (λ n s p. as_stimulus (read_stimulus_of n s p)) stimulus_reading s

trace_file_lem : (s : List ℕ) → read_trace_file s ≡ read_file Trace trace s
unfolding read_trace_file
trace_file_lem s = file_of_lem Trace trace (λ n s p. as_trace (read_trace_of n s p)) trace_reading s

pub written_stimulus_reads : promise.WrittenStimulusReads
written_stimulus_reads n xs range valid = stimulus_file_lem _ ∙ file_reads Stim stimulus n xs range valid

pub read_stimulus_writes : promise.ReadStimulusWrites
read_stimulus_writes s n xs e =
    let w = file_writes Stim stimulus s n xs (sym (stimulus_file_lem s) ∙ e) in (w.range, w.valid, w.bytes)

pub written_trace_reads : promise.WrittenTraceReads
written_trace_reads n cs range valid =
    trace_file_lem _ ∙ file_reads Trace trace n cs range (each_map (λ c. valid_line n c range.many) cs valid)

pub read_trace_writes : promise.ReadTraceWrites
read_trace_writes s n cs e =
    let w = file_writes Trace trace s n cs (sym (trace_file_lem s) ∙ e) in
    (w.range, each_map (line_valid n) cs w.valid, w.bytes)

pub refused_at_its_line : promise.RefusedAtItsLine
unfolding read_stimulus_file read_trace_file
refused_at_its_line =
    record {
      stimulus_header = λ s r e. rw e;
      trace_header = λ s r e. rw e;
      stimulus_line_lem = λ n xs rest r range valid e.
          stimulus_file_lem _ ∙ file_refused Stim stimulus n xs rest r range valid (sym (stimulus_reading n _ _) ∙ ap as_stimulus e);
      trace_line_lem = λ n cs rest r range valid e.
          trace_file_lem _
          ∙ file_refused Trace trace n cs rest r range (each_map (λ c. valid_line n c range.many) cs valid)
          (sym (trace_reading n _ _) ∙ ap as_trace e);
    }

pub counts_in_decimal : promise.CountsInDecimal
counts_in_decimal v h = in_decimal v h

pub lines_end : promise.LinesEnd
unfolding header breach_line end_line refused_line
lines_end =
    record {
      header_line = λ w n. after (prefix w) _ (prefix_plain w) (number_ends n);
      stimulus_line_lem = λ x. write_ends stimulus_fields (input_values x) (fields_closed input_columns (omega arith)) refl;
      trace_line_lem = λ c. write_ends trace_fields (cycle_values c) (fields_closed cycle_columns (omega arith)) refl;
      breach_line_lem = λ t r. number_then t _ (after (rule_name r) _ (name_plain r) bare);
      end_line_lem = λ k b. after end_word _ (omega arith) (number_then k _ (number_ends b));
      refused_line_lem = λ k r. after refused_word _ (omega arith) (number_then k _ (number_ends (number_of r)));
    }

-- a number and a tab, a number and LF
tab_tells : (t u : ℕ) (x y : List ℕ) → t < 10 ^ 10 → u < 10 ^ 10
    → decimal t ++ (tab ∷ x) ≡ decimal u ++ (tab ∷ y) → (t ≡ u) × (x ≡ y)
tab_tells t u x y ht hu e = number_before tab t u x y (omega arith) ht hu e

lf_tells : (t u : ℕ) → t < 10 ^ 10 → u < 10 ^ 10 → decimal t ++ (lf ∷ []) ≡ decimal u ++ (lf ∷ []) → t ≡ u
lf_tells t u ht hu e = (number_before lf t u [] [] (omega arith) ht hu e).0

pub report_tells : promise.ReportTells
unfolding breach_line end_line refused_line
report_tells =
    record {
      breach_line_lem = λ t u q r ht hu e. let p = tab_tells t u _ _ ht hu e in (p.0, name_tells q r p.1);
      end_line_lem = λ k l b c hk hl hb hc e.
          let p = tab_tells k l _ _ hk hl (append_cancel_left end_word _ _ e) in
          (p.0, lf_tells b c hb hc p.1);
      refused_line_lem = λ k l q r hk hl e.
          let p = tab_tells k l _ _ hk hl (append_cancel_left refused_word _ _ e) in
          (p.0, refusal_same q r (lf_tells (number_of q) (number_of r) (refusal_bound q) (refusal_bound r) p.1));
      refusals = refusal_same;
    }

pub buffers_kept : promise.BuffersKept
unfolding write_header_of header_written write_stimulus_of stimulus_written write_trace_of trace_written
buffers_kept =
    record {
      header_line = λ w n buffer. writes (for_masters n (Ok tt)) (header w n) buffer;
      stimulus_line_lem = λ n x buffer. writes (for_masters n (inputs_check n x)) (stimulus_line x) buffer;
      trace_line_lem = λ n c buffer. writes (for_masters n (cycle_check n c)) (trace_line c) buffer;
      report_line = λ l buffer. writes (Ok tt) l buffer;
    }
