-- Bytes joined one by one, in either order.
use Prim.Native.Nat.{ℕ, suc, ◌+◌, ◌*◌, ◌%◌, ◌^◌, ◌≤◌, ◌<◌}
use mathlib.Core.Path.{◌≡◌, refl, ap₂}
use mathlib.Core.List.{List, [], ◌∷◌, reverse, reverse_aux}
use native.Mathlib.Nat.{mul-le-mul_left, mul-le-mul_right, mul_assoc, lt_of_lt_of_le, mod-eq_of_lt}
use native.Mathlib.Omega.{arith}
use lib.ListN.{length, get_or, length-reverse}
use lib.Dec.{T, ltb, ltb→lt}
use lib.Pow.{are_bytes, pow-add, pow_mono}
use lib.Ieee.Fits.{and_i, and_l, and_r}
use borrow.Author.Tests.{lt-ltb}
use Rattle.std.specs.Int.Bits.{bit_or}
use Rattle.std.specs.List.{fold}
use Rattle.std.proofs.lemmas.Nat.{or_shifted, pow_pos}
use Rattle.format.specs.Word.{Order, big, little, join_after, joined}

-- bytes in the order in which they are joined
abbrev pub ordered : Order → List ℕ → List ℕ
ordered big bytes = bytes
ordered little bytes = reverse bytes

joined-ordered : (o : Order) (bytes : List ℕ) → joined o bytes ≡ join_after 0 (ordered o bytes)
unfolding joined
joined-ordered big bytes = refl
joined-ordered little bytes = refl

length-ordered : (o : Order) (bytes : List ℕ) → length (ordered o bytes) ≡ length bytes
length-ordered big bytes = refl
length-ordered little bytes = length-reverse bytes

onto_bytes : (l rest : List ℕ) → T (are_bytes l) → T (are_bytes rest) → T (are_bytes (reverse_aux l rest))
onto_bytes [] rest p q = q
onto_bytes (x ∷ l) rest p q = onto_bytes l (x ∷ rest) (and_r (ltb x 256) (are_bytes l) p) (and_i (ltb x 256) (are_bytes rest) (and_l (ltb x 256) (are_bytes l) p) q)

-- in either order they are bytes
ordered-bytes : (o : Order) (bytes : List ℕ) → T (are_bytes bytes) → T (are_bytes (ordered o bytes))
ordered-bytes big bytes p = p
ordered-bytes little bytes p = onto_bytes bytes [] p tt

-- bytes of one number are those of another where the numbers and the counts are the same
join_same : (x y : List ℕ) (g h : ℕ) → length x ≡ length y → T (are_bytes x) → T (are_bytes y) → join_after g x ≡ join_after h y → (g ≡ h) × (x ≡ y)
unfolding join_after
join_same [] [] g h l p q e = (e, refl)
join_same [] (b ∷ y) g h l p q e = absurd (omega arith)
join_same (a ∷ x) [] g h l p q e = absurd (omega arith)
join_same (a ∷ x) (b ∷ y) g h l p q e =
    let u : a < 256 = ltb→lt a 256 (and_l (ltb a 256) (are_bytes x) p) in
    let v : b < 256 = ltb→lt b 256 (and_l (ltb b 256) (are_bytes y) q) in
    let s = join_same x y (g * 256 + a) (h * 256 + b) (omega arith) (and_r (ltb a 256) (are_bytes x) p) (and_r (ltb b 256) (are_bytes y) q) e in
    let t : g * 256 + a ≡ h * 256 + b = s.0 in
    let c : a ≡ b = omega arith in
    (omega arith, ap₂ (λ (d : ℕ) (r : List ℕ). d ∷ r) c s.1)

pub joined_same : (x y : List ℕ) → length x ≡ length y → T (are_bytes x) → T (are_bytes y) → joined big x ≡ joined big y → x ≡ y
unfolding joined
joined_same x y l p q e = (join_same x y 0 0 l p q e).1

-- a byte more makes 256 times as many values
byte_more : (n : ℕ) → 2 ^ (8 * suc n) ≡ 256 * 2 ^ (8 * n)
byte_more n = let e : 8 * suc n ≡ 8 + 8 * n = omega arith in rw e (pow-add 2 8 (8 * n))

join_below : (high : ℕ) (bytes : List ℕ) → T (are_bytes bytes) → join_after high bytes < (high + 1) * 2 ^ (8 * length bytes)
unfolding join_after
join_below high [] p = omega arith
join_below high (b ∷ bytes) p =
    let u : b < 256 = ltb→lt b 256 (and_l (ltb b 256) (are_bytes bytes) p) in
    let wide : high * 256 + b + 1 ≤ (high + 1) * 256 = omega arith in
    let widened = mul-le-mul_right (2 ^ (8 * length bytes)) wide in
    rw (byte_more (length bytes), ← mul_assoc (high + 1) 256 (2 ^ (8 * length bytes))) (lt_of_lt_of_le (join_below (high * 256 + b) bytes (and_r (ltb b 256) (are_bytes bytes) p)) widened)

-- every width: so many bytes, joined in either order, are a number of eight times as many bits
pub joined-below : (o : Order) (bytes : List ℕ) → T (are_bytes bytes) → joined o bytes < 2 ^ (8 * length bytes)
joined-below o bytes p =
    let below : join_after 0 (ordered o bytes) < 1 * 2 ^ (8 * length (ordered o bytes)) = join_below 0 (ordered o bytes) (ordered-bytes o bytes p) in
    rw (joined-ordered o bytes) (omega (arith, rw (length-ordered o bytes) at below))

-- elements of a slice of bytes
pub bytes_of : (l : List ℕ) → ((i : ℕ) → i < length l → get_or l i 0 < 256) → T (are_bytes l)
bytes_of [] h = tt
bytes_of (x ∷ l) h = and_i (ltb x 256) (are_bytes l) (rw (lt-ltb x 256 (h 0 (omega arith))) tt) (bytes_of l (λ i u. h (suc i) (omega arith)))

-- the machine's way to join a byte to those before it
abbrev pub shifted : ℕ → ℕ → ℕ
shifted high b = bit_or ((high * 2 ^ 8) % 2 ^ 64) b

-- bytes joined by the machine, after a number that leaves room for them
fold-shifted : (high : ℕ) (bytes : List ℕ) → T (are_bytes bytes) → (high + 1) * 2 ^ (8 * length bytes) ≤ 2 ^ 64 → fold shifted high bytes ≡ join_after high bytes
unfolding join_after
fold-shifted high [] p room = refl
fold-shifted high (b ∷ bytes) p room =
    let u : b < 2 ^ 8 = ltb→lt b 256 (and_l (ltb b 256) (are_bytes bytes) p) in
    let n : ℕ = 2 ^ (8 * length bytes) in
    let more : (high * 256 + b + 1) * n ≤ ((high + 1) * 256) * n = mul-le-mul_right n (omega arith) in
    let all : ((high + 1) * 256) * n ≤ 2 ^ 64 = rw (byte_more (length bytes), ← mul_assoc (high + 1) 256 n) at room in
    let one : (high * 256 + b + 1) * 1 ≤ (high * 256 + b + 1) * n = mul-le-mul_left (high * 256 + b + 1) (pow_pos (8 * length bytes)) in
    let step : shifted high b ≡ high * 256 + b = rw (mod-eq_of_lt {n = high * 2 ^ 8} {m = 2 ^ 64} (omega arith)) (or_shifted high 8 b u) in
    rw step (fold-shifted (high * 256 + b) bytes (and_r (ltb b 256) (are_bytes bytes) p) (omega arith))

-- bytes joined by the machine in an order
pub shifted-ordered : (o : Order) (bytes : List ℕ) → ((i : ℕ) → get_or bytes i 0 < 256) → 8 * length bytes ≤ 64 → fold shifted 0 (ordered o bytes) ≡ joined o bytes
shifted-ordered o bytes known room =
    let turned = ordered o bytes in
    let wide : 2 ^ (8 * length bytes) ≤ 2 ^ 64 = pow_mono {i = 8 * length bytes} {j = 64} room in
    let fits : (0 + 1) * 2 ^ (8 * length turned) ≤ 2 ^ 64 = rw (length-ordered o bytes) (omega arith) in
    rw (joined-ordered o bytes) (fold-shifted 0 turned (ordered-bytes o bytes (bytes_of bytes (λ i u. known i))) fits)
