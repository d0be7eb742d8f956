-- The breaches of one cycle, from one charge to the next.
--
--   Reporting ..    == where the loop stands: the lines so far, and that those of the rules from i on that m names are still to be written
--   nothing_yet     == it stands so at the start
--   same_size, lent == the buffer keeps its length, and has room for one line more
--   First, next     == the next charge
--   one_more        == one charge more
--   all_reported    == where no charge is left, all is written
use Prim.Native.Nat.{ℕ, suc, ◌+◌, ◌-◌, ◌*◌, ◌/◌, ◌^◌, ◌≤◌, ◌<◌}
use mathlib.Core.Path.{◌≡◌, refl, sym, ap, ◌∙◌}
use mathlib.Core.List.{List, [], ◌∷◌, ◌++◌, append-nil, append_assoc}
use native.Mathlib.Omega.{arith}
use lib.Count.{count_trailing_zeros}
use lib.ListN.{length, get_or, take, drop, length-append, length-drop}
use lib.Seq.{get_or-drop, drop-drop}
use Rattle.rules.proofs.Choice.{order}
use Rattle.rulebook.specs.declared.Rule.{Rule}
use Rattle.rulebook.specs.declared.Rule.TheVariants.{A1}
use Rattle.rulebook.specs.Rules.{rules}
use Rattle.rulebook.specs.Named.{named_by}
use Rattle.rulebook.proofs.Named.{First, named_first, named_none}
use Rattle.formats.specs.Report.{breach_line}
use Rattle.words.proofs.Words.{part_rest}
use Rattle.streams.specs.Judging.{breach_lines}
use Rattle.streams.specs.Turns.{over, Put}
use Rattle.streams.specs.Breaches.{Reported}
use Rattle.streams.proofs.Parts.{written_on}
use Rattle.streams.proofs.Sizes.{breach_size}

-- t is the cycle, m₀ its charges; n lines are written, w bytes
pub record Reporting (t m₀ : ℕ) (out₀ : List ℕ) (m i w n : ℕ) (out : List ℕ) : Type 0 where
  pub below : i ≤ 21
  pub small : m < 2 ^ length (drop i rules)
  pub few : w ≤ n * 15
  pub less : n ≤ i
  pub bytes : List ℕ
  pub size : length bytes ≡ w
  pub puts : out ≡ over bytes out₀
  pub lines : breach_lines t (named_by m₀ rules) ≡ bytes ++ breach_lines t (named_by m (drop i rules))
  pub count : length (named_by m₀ rules) ≡ n + length (named_by m (drop i rules))

pub not_none : (m : ℕ) → (m ≡ 0 → ⊥) → 0 < m
not_none m h = order 1 m (λ p. p) (λ p. absurd (h (omega arith)))

pub small_line : (t : ℕ) (r : Rule) {k : ℕ} {buffer out : List ℕ} → t < 10 ^ 10 → Put (breach_line t r) buffer k out → k ≤ 15
small_line t r h p = rw p.size (breach_size t r h)

module _ {t m₀ : ℕ} {out₀ : List ℕ} where
  pub nothing_yet : m₀ < 2 ^ 21 → Reporting t m₀ out₀ m₀ 0 0 0 out₀
  nothing_yet h =
      record {
        below = omega arith;
        small = h;
        few = omega arith;
        less = omega arith;
        bytes = [];
        size = refl;
        puts = refl;
        lines = refl;
        count = omega arith;
      }

  module _ {m i w n : ℕ} {out : List ℕ} (g : Reporting t m₀ out₀ m i w n out) where
    pub same_size : 315 ≤ length out₀ → length out ≡ length out₀
    same_size big =
        let b = g.below in
        let f = g.few in
        let l = g.less in
        ap length g.puts ∙ simp (length-append, length-drop, g.size) (omega arith)

    pub all_reported : m ≡ 0 → Reported t (named_by m₀ rules) out₀ w n out
    unfolding breach_lines
    all_reported e =
        let none : named_by m (drop i rules) ≡ [] = rw e (named_none (drop i rules)) in
        let all : breach_lines t (named_by m₀ rules) ≡ g.bytes = g.lines ∙ rw none (append-nil g.bytes) in
        record {
          lines = record { size = rw all (sym g.size); puts = rw all g.puts };
          count = sym (g.count ∙ rw none (omega arith));
        }

    module _ (some : 0 < m) where
      abbrev z : ℕ
      z = count_trailing_zeros 32 m

      next : First m (drop i rules) A1 z
      next = named_first 32 m (drop i rules) A1 some g.small (omega (arith, length-drop i rules))

      pub inside : i + z < 21
      inside = omega (arith, next.inside, length-drop i rules, g.below)

      pub lent : 315 ≤ length out₀ → 15 ≤ length (take (length out - w) (drop w out))
      lent big = rw (part_rest w out, length-drop) (omega (arith, same_size big, g.few, g.less, inside))

      module _ {r : Rule} {k : ℕ} {part : List ℕ}
          (at : r ≡ get_or rules (i + z) A1)
          (small : t < 10 ^ 10)
          (p : Put (breach_line t r) (take (length out - w) (drop w out)) k part)
        where
          abbrev line : List ℕ
          line = breach_line t r

          abbrev rest : List Rule
          rest = named_by (m / 2 ^ z / 2) (drop (i + z + 1) rules)

          left_over : drop (suc z) (drop i rules) ≡ drop (i + z + 1) rules
          left_over =
              let e : i + suc z ≡ i + z + 1 = omega arith in
              drop-drop (suc z) i rules ∙ rw e

          next_is : named_by m (drop i rules) ≡ r ∷ rest
          next_is = next.is ∙ rw (get_or-drop, left_over, at)

          pub one_more : Reporting t m₀ out₀ (m / 2 ^ z / 2) (i + z + 1) (w + k) (n + 1) (take w out ++ (part ++ drop (length out - w) (drop w out)))
          unfolding breach_lines
          one_more =
              record {
                below = omega (arith, inside);
                small = rw left_over at next.left;
                few = omega (arith, g.few, small_line t r small p);
                less = omega (arith, g.less);
                bytes = g.bytes ++ line;
                size = length-append g.bytes line ∙ rw (g.size, p.size);
                puts = written_on g.bytes line out₀ out part w g.size g.puts p.puts;
                lines = g.lines ∙ rw (next_is, append_assoc);
                count = g.count ∙ rw next_is (omega arith);
              }
