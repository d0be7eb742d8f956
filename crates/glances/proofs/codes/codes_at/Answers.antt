-- `codes_at` meets its contract.
use Rattle.std.proofs.Common.{ℕ, ◌+◌, ◌-◌, ◌%◌, ◌^◌, ◌≡◌, ◌∙◌, arith}
use Rattle.words.proofs.Words.{number_part}
use Rattle.glances.proofs.Compared.{codes_seen}
use Rattle.glances.proofs.codes.codes_at.Goals as goal

pub returns : goal.returns
returns c = let s = c.args.s.now in let text = c.no_codes.result in
    let x : ℕ = (c.eight-w.result + (2 ^ 64 - text)) % 2 ^ 64 in
    let less : (x + text) % 2 ^ 64 ≡ c.eight-w.result = omega arith in
    codes_seen s (record { below = λ i. omega (arith, c.type_inv.s i) }) x text (omega arith) _ c.requires.1 c.no_codes.ensures
    (less ∙ c.eight-w.ensures ∙ number_part 8 8 s 0) _ c.unbuilt.ensures
