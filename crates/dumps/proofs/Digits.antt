-- Two numbers below a thousand, side by side in one number and taken apart at once.
--
--   hundreds_inside == their hundreds are no more than they are
--   tens_inside     == the tens of what is left are no more than that
--   all_digits      == the six digits, each in its byte
use Prim.Native.Nat.{ℕ, ◌+◌, ◌-◌, ◌*◌, ◌/◌, ◌%◌, ◌≤◌, ◌<◌}
use mathlib.Core.Path.{◌≡◌, ap, ◌∙◌}
use native.Mathlib.Omega.{arith}
use Rattle.dumps.specs.Clock.{six_of}

abbrev beside : ℕ → ℕ → ℕ
beside a b = a * 256 + b * 4294967296

-- the low four bits of each side
abbrev sides : ℕ → ℕ
sides q = q / 256 % 16 * 256 + q / 4294967296 % 16 * 4294967296

-- the arithmetic of `digits`, where w is both numbers and r what is left of them without their hundreds
abbrev hundreds_of : ℕ → ℕ
hundreds_of w = sides (w * 41 / 4096)

abbrev rest_of : ℕ → ℕ
rest_of w = w - hundreds_of w * 100

abbrev tens_of : ℕ → ℕ
tens_of r = sides (r * 103 / 1024)

abbrev ones_of : ℕ → ℕ
ones_of r = r - tens_of r * 10

-- a product and a shift in the place of a division
hundredth : (x : ℕ) → x < 1000 → x * 41 / 4096 ≡ x / 100
hundredth x h = omega arith

tenth : (x : ℕ) → x < 100 → x * 103 / 1024 ≡ x / 10
tenth x h = omega arith

-- after the shift, the low bits of y stand between x and the rest of y
by_twelve : (x y q : ℕ) → x < 40960 → y < 40960 → q ≡ y * 1048576 + x / 16 → sides q ≡ beside (x / 4096) (y / 4096)
by_twelve x y q hx hy e =
    let l : q / 256 ≡ y * 4096 + x / 4096 = omega arith in
    let h : q / 4294967296 ≡ y / 4096 = omega arith in
    rw (l, h) (omega arith)

by_ten : (x y q : ℕ) → x < 10240 → y < 10240 → q ≡ y * 4194304 + x / 4 → sides q ≡ beside (x / 1024) (y / 1024)
by_ten x y q hx hy e =
    let l : q / 256 ≡ y * 16384 + x / 1024 = omega arith in
    let h : q / 4294967296 ≡ y / 1024 = omega arith in
    rw (l, h) (omega arith)

hundreds : (a b : ℕ) → a < 1000 → b < 1000 → hundreds_of (beside a b) ≡ beside (a / 100) (b / 100)
hundreds a b ha hb =
    by_twelve (a * 41) (b * 41) (beside a b * 41 / 4096) (omega arith) (omega arith) (omega arith) ∙ rw (hundredth a ha, hundredth b hb)

tens : (a b : ℕ) → a < 100 → b < 100 → tens_of (beside a b) ≡ beside (a / 10) (b / 10)
tens a b ha hb =
    by_ten (a * 103) (b * 103) (beside a b * 103 / 1024) (omega arith) (omega arith) (omega arith) ∙ rw (tenth a ha, tenth b hb)

left_over : (a b h : ℕ) → h ≡ beside (a / 100) (b / 100) → beside a b - h * 100 ≡ beside (a % 100) (b % 100)
left_over a b h e = omega arith

module _ (a b : ℕ) (ha : a < 1000) (hb : b < 1000) where
  pub hundreds_inside : hundreds_of (beside a b) * 100 ≤ beside a b
  hundreds_inside = rw (hundreds a b ha hb) (omega arith)

  rest : rest_of (beside a b) ≡ beside (a % 100) (b % 100)
  rest = left_over a b _ (hundreds a b ha hb)

  rest_tens : tens_of (rest_of (beside a b)) ≡ beside (a % 100 / 10) (b % 100 / 10)
  rest_tens = ap tens_of rest ∙ tens (a % 100) (b % 100) (omega arith) (omega arith)

  pub tens_inside : tens_of (rest_of (beside a b)) * 10 ≤ rest_of (beside a b)
  tens_inside = rw (rest_tens, rest) (omega arith)

  pub all_digits : hundreds_of (beside a b) + tens_of (rest_of (beside a b)) * 256 + ones_of (rest_of (beside a b)) * 65536
      ≡ six_of (a / 100) (a / 10 % 10) (a % 10) (b / 100) (b / 10 % 10) (b % 10)
  all_digits = rw (rest_tens, rest, hundreds a b ha hb) (joined a b)
    where
      joined : (x y : ℕ) → beside (x / 100) (y / 100) + beside (x % 100 / 10) (y % 100 / 10) * 256 + (beside (x % 100) (y % 100) - beside (x % 100 / 10) (y % 100 / 10) * 10) * 65536
          ≡ six_of (x / 100) (x / 10 % 10) (x % 10) (y / 100) (y / 10 % 10) (y % 10)
      joined x y =
          let x1 : x / 10 % 10 ≡ x % 100 / 10 = omega arith in
          let y1 : y / 10 % 10 ≡ y % 100 / 10 = omega arith in
          let x0 : x % 10 ≡ x % 100 - x % 100 / 10 * 10 = omega arith in
          let y0 : y % 10 ≡ y % 100 - y % 100 / 10 * 10 = omega arith in
          rw (x1, y1, x0, y0) (omega arith)
