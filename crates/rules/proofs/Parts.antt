-- Two answers that are the same have the same parts.
--
--   ok_parts, err_parts == of an answer with two parts
--   line_parts          == of a line read: what was read, and the position after it
use Rattle.std.proofs.Common.{◌≡◌, Option, Some, None, Result, Ok, Err}
use mathlib.Core.Path.{ap}

left : {A B E : Type 0} → A → Result (A × B) E → A
left z (Ok p) = p.0
left z (Err e) = z

right : {A B E : Type 0} → B → Result (A × B) E → B
right z (Ok p) = p.1
right z (Err e) = z

pub ok_parts : {A B E : Type 0} {a c : A} {b d : B} → ◌≡◌ {A = Result (A × B) E} (Ok (a, b)) (Ok (c, d)) → (a ≡ c) × (b ≡ d)
unfolding left right
ok_parts {a = a} {b = b} e = (ap (left a) e, ap (right b) e)

first : {A B C : Type 0} → A → Result C (A × B) → A
first z (Ok c) = z
first z (Err p) = p.0

second : {A B C : Type 0} → B → Result C (A × B) → B
second z (Ok c) = z
second z (Err p) = p.1

pub err_parts : {A B C : Type 0} {a c : A} {b d : B} → ◌≡◌ {A = Result C (A × B)} (Err (a, b)) (Err (c, d)) → (a ≡ c) × (b ≡ d)
unfolding first second
err_parts {a = a} {b = b} e = (ap (first a) e, ap (second b) e)

shown : {A B E : Type 0} → A → Result (Option (A × B)) E → A
shown z (Ok (Some p)) = p.0
shown z (Ok None) = z
shown z (Err e) = z

behind : {A B E : Type 0} → B → Result (Option (A × B)) E → B
behind z (Ok (Some p)) = p.1
behind z (Ok None) = z
behind z (Err e) = z

pub line_parts : {A B E : Type 0} {a c : A} {b d : B} → ◌≡◌ {A = Result (Option (A × B)) E} (Ok (Some (a, b))) (Ok (Some (c, d))) → (a ≡ c) × (b ≡ d)
unfolding shown behind
line_parts {a = a} {b = b} e = (ap (shown a) e, ap (behind b) e)
