-- The remainder by t from the remainder by 2t, by the ways of `remainder_up` (`rem_low`, `step`), and the rest of `remainder`, by its ways.
-- A finite value is a whole number of units, the format's smallest value, 2 ^ -low. Of r and w units with w at most r and r at most 2w the difference is exact
-- (`sub_is`), t + t is exact or infinity (`twice_is`), and the remainder is r % w units (`rem_is`); so the laws are those of r % (w + w) and r % w (`half`).
use Rattle.std.proofs.Common.{◌≡◌, ℕ, zero, suc, ◌+◌, ◌-◌, ◌*◌, ◌/◌, ◌%◌, ◌^◌, ◌<◌, ◌≤◌, Bool, true, false, ◌&&◌, cond, T, leb, ltb, eqb, ℤ, pos, negsuc, sym, refl, ap, ◌∙◌, subst, subst₂, true≢false, zero-lt-suc, mul_assoc, mul_comm, mul_right_comm, mul-pos, mul-lt-mul_of_pos_right, lt_of_mul-lt-mul_right, one-mul, mul-one, pow-suc, pow-add, mod-lt, lt_of_le_of_lt, lt_of_lt_of_le, arith, eqb→eq, ltb→lt, lt→ltb, ltb-true, ltb-false, pow_pos, le_trans, le_of_eq, mul-le-mul_right, mul-div_cancel, le_of_lt, le-ltb, lt-ltb, leb-true, leb-false}
use native.Mathlib.Nat.{mul-sub, le_of_mul-le-mul_right, eq_of_mul-eq-mul_right, mod-eq_of_lt}
use Rattle.std.proofs.Math.Arith.{mod-mul}
use lib.Ieee.{Float, nan, inf, fin, Format, binary32, prec, emax, low, up, down, round, sum, add, sub, div, neg, rem, lt, le, fits}
use lib.Ieee.Fits.{up_pos, down_pos, round-fits, rem-fits, and_l}
use lib.Ieee.Exact.{HasValue, round_exact}
use lib.Ieee.Order.{round_mono}
use Rattle.float.specs.Numbers.{finite}
use Rattle.float.specs.Rank.{grid, mid, rank, shift, grid_is, grid_shift, grid_lt}
use Rattle.float.specs.Grow.{small, neg_round}
use Rattle.float.specs.Remainder.{rem_exact, scale_mod}

-- ---- a value is written in one way
even_odd : (m t : ℕ) → m % 2 ≡ 1 → m ≡ t * 2 → ⊥
even_odd m t o h = omega arith

odd_pow : (m n a b : ℕ) → m % 2 ≡ 1 → n % 2 ≡ 1 → m * 2 ^ a ≡ n * 2 ^ b → (m ≡ n) × (a ≡ b)
odd_pow m n zero zero o p h = (sym (mul-one m) ∙ h ∙ mul-one n, refl)
odd_pow m n zero (suc b) o p h = absurd (even_odd m (n * 2 ^ b) o (sym (mul-one m) ∙ h ∙ ap (λ (x : ℕ). n * x) (pow-suc 2 b) ∙ sym (mul_assoc n (2 ^ b) 2)))
odd_pow m n (suc a) zero o p h = absurd (even_odd n (m * 2 ^ a) p (sym (mul-one n) ∙ sym h ∙ ap (λ (x : ℕ). m * x) (pow-suc 2 a) ∙ sym (mul_assoc m (2 ^ a) 2)))
odd_pow m n (suc a) (suc b) o p h =
    let r = odd_pow m n a b o p (eq_of_mul-eq-mul_right 2 (zero-lt-suc 1) (m * 2 ^ a) (n * 2 ^ b)
    (mul_assoc m (2 ^ a) 2 ∙ ap (λ (x : ℕ). m * x) (sym (pow-suc 2 a)) ∙ h ∙ ap (λ (x : ℕ). n * x) (pow-suc 2 b) ∙ sym (mul_assoc n (2 ^ b) 2))) in
    (r.0, ap suc r.1)

is_odd : (f : Format) (s : Bool) (m : ℕ) (e : ℤ) → T (fits f (fin s (suc m) e)) → suc m % 2 ≡ 1
unfolding fits
is_odd f s m e t =
    eqb→eq (suc m % 2) 1 (and_l (eqb (suc m % 2) 1) (ltb (suc m) (2 ^ prec f)) (and_l (eqb (suc m % 2) 1 && ltb (suc m) (2 ^ prec f)) (leb (down e) (2 ^ low f))
    (and_l (eqb (suc m % 2) 1 && ltb (suc m) (2 ^ prec f) && leb (down e) (2 ^ low f)) (ltb (suc m * up e) (2 ^ suc (emax f) * down e)) t)))

-- a value with an odd significand has one exponent
same_power : (m n : ℕ) (e d : ℤ) → m % 2 ≡ 1 → n % 2 ≡ 1 → m * up e * down d ≡ n * up d * down e → (m ≡ n) × (e ≡ d)
same_power m n (pos k) (pos l) o p h =
    let r = odd_pow m n k l o p (sym (mul-one (m * 2 ^ k)) ∙ h ∙ mul-one (n * 2 ^ l)) in
    (r.0, ap pos r.1)
same_power m n (pos k) (negsuc l) o p h = absurd (none (k + suc l) (odd_pow m n (k + suc l) 0 o p (ap (λ (x : ℕ). m * x) (pow-add 2 k (suc l)) ∙ sym (mul_assoc m (2 ^ k) (2 ^ suc l)) ∙ h ∙ mul-one (n * 1))).1)
  where
    none : (x : ℕ) → k + suc l ≡ 0 → ⊥
    none x h = omega arith
same_power m n (negsuc k) (pos l) o p h = absurd (none (l + suc k) (odd_pow m n 0 (l + suc k) o p (sym (mul-one (m * 1)) ∙ h ∙ mul_assoc n (2 ^ l) (2 ^ suc k) ∙ ap (λ (x : ℕ). n * x) (sym (pow-add 2 l (suc k))))).1)
  where
    none : (x : ℕ) → 0 ≡ l + suc k → ⊥
    none x h = omega arith
same_power m n (negsuc k) (negsuc l) o p h =
    let r = odd_pow m n (suc l) (suc k) o p (ap (λ (x : ℕ). x * 2 ^ suc l) (sym (mul-one m)) ∙ h ∙ ap (λ (x : ℕ). x * 2 ^ suc k) (mul-one n)) in
    (r.0, ap negsuc (less r.1))
  where
    less : suc l ≡ suc k → k ≡ l
    less h = omega arith

zero_exp : (f : Format) (s : Bool) (e : ℤ) → T (fits f (fin s zero e)) → e ≡ pos 0
unfolding fits
zero_exp f s e t = flat e (eqb→eq (up e * down e) 1 t)
  where
    two_up : (p : ℕ) → 0 < p → p * 2 ≡ 1 → ⊥
    two_up p h e = omega arith

    flat : (e : ℤ) → up e * down e ≡ 1 → e ≡ pos 0
    flat (pos zero) h = refl
    flat (pos (suc k)) h = absurd (two_up (2 ^ k) (pow_pos k) (sym (pow-suc 2 k) ∙ sym (mul-one (2 ^ suc k)) ∙ h))
    flat (negsuc k) h = absurd (two_up (2 ^ k) (pow_pos k) (sym (pow-suc 2 k) ∙ sym (one-mul (2 ^ suc k)) ∙ h))

-- two values that fit, with the same sign and the same size
same_size : (f : Format) (s : Bool) (m : ℕ) (e : ℤ) (n : ℕ) (d : ℤ) → T (fits f (fin s m e)) → T (fits f (fin s n d)) → m * up e * down d ≡ n * up d * down e → fin s m e ≡ fin s n d
same_size f s zero e zero d h k q = ap (λ (x : ℤ). fin s zero x) (zero_exp f s e h ∙ sym (zero_exp f s d k))
same_size f s zero e (suc n) d h k q = absurd (apart (down d) (suc n * up d * down e) (mul-pos (mul-pos (zero-lt-suc n) (up_pos d)) (down_pos e)) (zero-times (up e) (down d) ∙ q))
  where
    zero-times : (a b : ℕ) → 0 ≡ 0 * a * b
    zero-times a b = omega arith

    apart : (a x : ℕ) → 0 < x → 0 ≡ x → ⊥
    apart a x h q = omega arith
same_size f s (suc m) e zero d h k q = absurd (apart (suc m * up e * down d) (mul-pos (mul-pos (zero-lt-suc m) (up_pos e)) (down_pos d)) (zero-times (up d) (down e) ∙ sym q))
  where
    zero-times : (a b : ℕ) → 0 ≡ 0 * a * b
    zero-times a b = omega arith

    apart : (x : ℕ) → 0 < x → 0 ≡ x → ⊥
    apart x h q = omega arith
same_size f s (suc m) e (suc n) d h k q =
    let r = same_power (suc m) (suc n) e d (is_odd f s m e h) (is_odd f s n d k) q in
    λ i. fin s (r.0 i) (r.1 i)

-- ---- x holds w units, with the sign s
pub record Is (f : Format) (x : Float) (s : Bool) (w : ℕ) : Type 0 where
  pub fit : T (fits f x)
  pub val : HasValue x s w (2 ^ low f)

pub own : (f : Format) (s : Bool) (m : ℕ) (e : ℤ) → T (fits f (fin s m e)) → Is f (fin s m e) s (grid f m e)
own f s m e h = record { fit = h; val = (refl, sym (grid_is f s m e h)) }

grid_of : (f : Format) (s : Bool) (m : ℕ) (e : ℤ) (w : ℕ) → Is f (fin s m e) s w → grid f m e ≡ w
grid_of f s m e w p = ap (λ (x : ℕ). x / down e) p.val.1 ∙ mul-div_cancel w (down_pos e)

is_under : (f : Format) (s : Bool) (m : ℕ) (e : ℤ) (w : ℕ) → Is f (fin s m e) s w → w < mid f
is_under f s m e w p = subst (λ (x : ℕ). x < mid f) (grid_of f s m e w p) (grid_lt f s m e p.fit)

-- a w units, in a fraction over c
fraction : (f : Format) (x : Float) (s : Bool) (a c w : ℕ) → 0 < c → T (fits f x) → HasValue x s a c → a * 2 ^ low f ≡ w * c → Is f x s w
fraction f nan s a c w C h v q = absurd v
fraction f (inf t) s a c w C h v q = absurd v
fraction f (fin t m e) s a c w C h v q = record {
  fit = h;
  val = (
    v.0,
    eq_of_mul-eq-mul_right c C (m * up e * 2 ^ low f) (w * down e)
        (mul_right_comm (m * up e) (2 ^ low f) c ∙ ap (λ (x : ℕ). x * 2 ^ low f) v.1 ∙ mul_right_comm a (down e) (2 ^ low f) ∙ ap (λ (x : ℕ). x * down e) q ∙ mul_right_comm w c (down e)),
  );
}

-- there is one such x
pub is_unique : (f : Format) (x y : Float) (s : Bool) (w : ℕ) → Is f x s w → Is f y s w → x ≡ y
is_unique f nan y s w p q = absurd p.val
is_unique f (inf t) y s w p q = absurd p.val
is_unique f (fin t m e) nan s w p q = absurd q.val
is_unique f (fin t m e) (inf u) s w p q = absurd q.val
is_unique f (fin t m e) (fin u n d) s w p q =
    ap (λ (b : Bool). fin b m e) p.val.0 ∙
    same_size f s m e n d (subst (λ (b : Bool). T (fits f (fin b m e))) p.val.0 p.fit) (subst (λ (b : Bool). T (fits f (fin b n d))) q.val.0 q.fit)
    (eq_of_mul-eq-mul_right (2 ^ low f) (pow_pos (low f)) (m * up e * down d) (n * up d * down e)
    (mul_right_comm (m * up e) (down d) (2 ^ low f) ∙ ap (λ (x : ℕ). x * down d) p.val.1 ∙ mul_right_comm w (down e) (down d) ∙ ap (λ (x : ℕ). x * down e) (sym q.val.1) ∙ mul_right_comm (n * up d) (2 ^ low f) (down e)))
    ∙ ap (λ (b : Bool). fin b n d) (sym q.val.0)

-- over the denominators of both
over_both : (f : Format) (m : ℕ) (e d : ℤ) (w : ℕ) → m * up e * 2 ^ low f ≡ w * down e → m * up e * down d * 2 ^ low f ≡ w * (down e * down d)
over_both f m e d w h = mul_right_comm (m * up e) (down d) (2 ^ low f) ∙ ap (λ (x : ℕ). x * down d) h ∙ mul_assoc w (down e) (down d)

over_both' : (f : Format) (n : ℕ) (d e : ℤ) (w : ℕ) → n * up d * 2 ^ low f ≡ w * down d → n * up d * down e * 2 ^ low f ≡ w * (down e * down d)
over_both' f n d e w h = over_both f n d e w h ∙ ap (λ (x : ℕ). w * x) (mul_comm (down d) (down e))

-- ---- the remainder
pub rem_is : (f : Format) (x y : Float) (s t : Bool) (r w : ℕ) → Is f x s r → Is f y t w → 0 < w → Is f (rem f x y) s (r % w)
rem_is f nan y s t r w p q W = absurd p.val
rem_is f (inf u) y s t r w p q W = absurd p.val
rem_is f (fin u m e) nan s t r w p q W = absurd q.val
rem_is f (fin u m e) (inf v) s t r w p q W = absurd q.val
rem_is f (fin u m e) (fin v zero d) s t r w p q W = absurd (none (up d) (2 ^ low f) (w * down d) (mul-pos W (down_pos d)) q.val.1)
  where
    none : (a b c : ℕ) → 0 < c → 0 * a * b ≡ c → ⊥
    none a b c h q = omega arith
rem_is f (fin u m e) (fin v (suc n) d) s t r w p q W =
    let c_pos = mul-pos (down_pos e) (down_pos d) in
    fraction f (rem f (fin u m e) (fin v (suc n) d)) s (m * up e * down d % (suc n * up d * down e)) (down e * down d) (r % w) c_pos
    (rem-fits f (fin u m e) (fin v (suc n) d) p.fit)
    (subst (λ (b : Bool). HasValue (rem f (fin u m e) (fin v (suc n) d)) b (m * up e * down d % (suc n * up d * down e)) (down e * down d)) p.val.0 (rem_exact f u m e v n d p.fit q.fit))
    (sym (scale_mod (m * up e * down d) (suc n * up d * down e) (2 ^ low f) (mul-pos (mul-pos (zero-lt-suc n) (up_pos d)) (down_pos e)) (pow_pos (low f)))
    ∙ ap (λ (x : ℕ). x % (suc n * up d * down e * 2 ^ low f)) (over_both f m e d r p.val.1)
    ∙ ap (λ (x : ℕ). r * (down e * down d) % x) (over_both' f (suc n) d e w q.val.1)
    ∙ scale_mod r w (down e * down d) W c_pos)

-- ---- t + t
add_is : (f : Format) (n : ℕ) (d : ℤ) → add f (fin false n d) (fin false n d) ≡ round f false (n * up d * down d + n * up d * down d) (down d * down d)
unfolding add sum
add_is f n d = refl

twice_over : (a l w c : ℕ) → a * l ≡ w * c → (a + a) * l ≡ (w + w) * c
twice_over a l w c h = omega (arith, h)

twice_held : (f : Format) (n : ℕ) (d : ℤ) (w : ℕ) → Is f (fin false n d) false w → w + w < mid f → Is f (add f (fin false n d) (fin false n d)) false (w + w)
twice_held f n d w p h =
    let j = (shift f false n d p.fit).0 in
    let c = down d * down d in
    let a = n * up d * down d in
    let c_pos : 0 < c = mul-pos (down_pos d) (down_pos d) in
    let q : (a + a) * 2 ^ low f ≡ (w + w) * c = twice_over a (2 ^ low f) w c (over_both f n d d w p.val.1) in
    let g : n * 2 ^ j ≡ w = sym (grid_shift f false n d p.fit) ∙ grid_of f false n d w p in
    let k : n * 2 ^ suc j ≡ w + w = ap (λ (x : ℕ). n * x) (pow-suc 2 j) ∙ sym (mul_assoc n (2 ^ j) 2) ∙ ap (λ (x : ℕ). x * 2) g ∙ two w in
    subst (λ (x : Float). Is f x false (w + w)) (sym (add_is f n d))
    (fraction f (round f false (a + a) c) false (a + a) c (w + w) c_pos (round-fits f false (a + a) c)
    (round_exact f false (a + a) c n (suc j) c_pos (small f false n d p.fit) (subst (λ (x : ℕ). x < mid f) (sym k) h) (q ∙ ap (λ (x : ℕ). x * c) (sym k))) q)
  where
    two : (w : ℕ) → w * 2 ≡ w + w
    two w = omega arith

top : (x : Float) → T (le (inf false) x) → x ≡ inf false
unfolding le
top nan h = absurd h
top (inf true) h = absurd h
top (inf false) h = refl
top (fin s m e) h = absurd h

twice_past : (n : ℕ) (d : ℤ) (w : ℕ) → Is binary32 (fin false n d) false w → mid binary32 ≤ w + w → add binary32 (fin false n d) (fin false n d) ≡ inf false
twice_past n d w p h =
    let c = down d * down d in
    let a = n * up d * down d in
    let c_pos : 0 < c = mul-pos (down_pos d) (down_pos d) in
    add_is binary32 n d ∙ top (round binary32 false (a + a) c)
    (subst (λ (x : Float). T (le x (round binary32 false (a + a) c))) end
    (round_mono binary32 (2 ^ 128) 1 (a + a) c (zero-lt-suc 0) c_pos
    (past (a + a) c (2 ^ low binary32) (w + w) (pow_pos (low binary32)) (twice_over a (2 ^ low binary32) w c (over_both binary32 n d d w p.val.1)) h)))
  where
    end : round binary32 false (2 ^ 128) 1 ≡ inf false
    end = unfold round in refl

    past : (a c l v : ℕ) → 0 < l → a * l ≡ v * c → 2 ^ 128 * l ≤ v → 2 ^ 128 * c ≤ a * 1
    past a c l v L q h = le_trans (le_of_mul-le-mul_right {k = l} (subst₂ ◌≤◌ (mul_right_comm (2 ^ 128) l c) (sym q) (mul-le-mul_right c h)) L) (le_of_eq (sym (mul-one a)))

-- of any t
pub twice_is : (t : Float) (w : ℕ) → Is binary32 t false w → (w + w < mid binary32 → Is binary32 (add binary32 t t) false (w + w)) × (mid binary32 ≤ w + w → add binary32 t t ≡ inf false)
twice_is nan w p = absurd p.val
twice_is (inf u) w p = absurd p.val
twice_is (fin true n d) w p = absurd (true≢false p.val.0)
twice_is (fin false n d) w p = (twice_held binary32 n d w p, twice_past n d w p)

-- ---- r - t
sub-mul : (a b c : ℕ) → (a - b) * c ≡ a * c - b * c
sub-mul a b c = mul_comm (a - b) c ∙ mul-sub c a b ∙ ap (λ (x : ℕ). x - c * b) (mul_comm c a) ∙ ap (λ (x : ℕ). a * c - x) (mul_comm c b)

sub_round : (f : Format) (m : ℕ) (e : ℤ) (n : ℕ) (d : ℤ) → n * up d * down e ≤ m * up e * down d
    → sub f (fin false m e) (fin false n d) ≡ round f false (m * up e * down d - n * up d * down e) (down e * down d)
unfolding sub add sum neg
sub_round f m e n d h = go (ltb (m * up e * down d) (n * up d * down e)) (ltb (n * up d * down e) (m * up e * down d)) (ge_ltb _ _ h)
  where
    ge_ltb : (a b : ℕ) → b ≤ a → ltb a b ≡ false
    ge_ltb a b h = le-ltb a b h

    go : (x y : Bool) → x ≡ false
        → cond x (round f true (n * up d * down e - m * up e * down d) (down e * down d)) (round f (false && y) (m * up e * down d - n * up d * down e) (down e * down d))
        ≡ round f false (m * up e * down d - n * up d * down e) (down e * down d)
    go x y q = rw q refl

-- a multiple of 2 ^ j that is at most m of them
pub data Held (f : Format) (r : ℕ) : Type 0 where
  held : (q j : ℕ) → q < 2 ^ prec f → r ≡ q * 2 ^ j → Held f r

less_held : (f : Format) (m i n j : ℕ) → m < 2 ^ prec f → n < 2 ^ prec f → n * 2 ^ j ≤ m * 2 ^ i → m * 2 ^ i ≤ n * 2 ^ j + n * 2 ^ j → Held f (m * 2 ^ i - n * 2 ^ j)
less_held f m i n j M N h k = go (leb i j) refl
  where
    split : (i k : ℕ) → i ≤ k → k ≡ k - i + i
    split i k h = omega arith

    regroup : (a i k : ℕ) → i ≤ k → a * 2 ^ k ≡ a * 2 ^ (k - i) * 2 ^ i
    regroup a i k h = ap (λ (x : ℕ). a * x) (ap (λ (x : ℕ). 2 ^ x) (split i k h) ∙ pow-add 2 (k - i) i) ∙ sym (mul_assoc a (2 ^ (k - i)) (2 ^ i))

    minus_under : (m b p : ℕ) → m < p → m - b < p
    minus_under m b p h = omega arith

    minus_mul : (a b c : ℕ) → a * c - b * c ≡ (a - b) * c
    minus_mul a b c = sym (sub-mul a b c)

    most : (a n c : ℕ) → 0 < c → a * c ≤ n * c + n * c → a - n ≤ n
    most a n c C h = under (le_of_mul-le-mul_right {k = c} (le_trans h (le_of_eq (both n c))) C)
      where
        both : (n c : ℕ) → n * c + n * c ≡ (n + n) * c
        both n c = omega arith

        under : a ≤ n + n → a - n ≤ n
        under h = omega arith

    go : (b : Bool) → leb i j ≡ b → Held f (m * 2 ^ i - n * 2 ^ j)
    go true e = held (m - n * 2 ^ (j - i)) i (minus_under m (n * 2 ^ (j - i)) (2 ^ prec f) M)
        (ap (λ (x : ℕ). m * 2 ^ i - x) (regroup n i j (leb-true i j e)) ∙ minus_mul m (n * 2 ^ (j - i)) (2 ^ i))
    go false e =
        let l : j ≤ i = omega (arith, leb-false i j e) in
        held (m * 2 ^ (i - j) - n) j
        (lt_of_le_of_lt (most (m * 2 ^ (i - j)) n (2 ^ j) (pow_pos j) (subst (λ (x : ℕ). x ≤ n * 2 ^ j + n * 2 ^ j) (regroup m j i l) k)) N)
        (ap (λ (x : ℕ). x - n * 2 ^ j) (regroup m j i l) ∙ minus_mul (m * 2 ^ (i - j)) n (2 ^ j))

pub sub_is : (f : Format) (x y : Float) (r w : ℕ) → Is f x false r → Is f y false w → w ≤ r → r ≤ w + w → Is f (sub f x y) false (r - w)
sub_is f nan y r w p q h k = absurd p.val
sub_is f (inf u) y r w p q h k = absurd p.val
sub_is f (fin u m e) nan r w p q h k = absurd q.val
sub_is f (fin u m e) (inf v) r w p q h k = absurd q.val
sub_is f (fin true m e) (fin v n d) r w p q h k = absurd (true≢false p.val.0)
sub_is f (fin false m e) (fin true n d) r w p q h k = absurd (true≢false q.val.0)
sub_is f (fin false m e) (fin false n d) r w p q h k =
    let i = (shift f false m e p.fit).0 in
    let j = (shift f false n d q.fit).0 in
    let R : m * 2 ^ i ≡ r = sym (grid_shift f false m e p.fit) ∙ grid_of f false m e r p in
    let W : n * 2 ^ j ≡ w = sym (grid_shift f false n d q.fit) ∙ grid_of f false n d w q in
    let a = m * up e * down d in
    let b = n * up d * down e in
    let c = down e * down d in
    let c_pos : 0 < c = mul-pos (down_pos e) (down_pos d) in
    let v : (a - b) * 2 ^ low f ≡ (r - w) * c =
    sub-mul a b (2 ^ low f) ∙ ap (λ (x : ℕ). x - b * 2 ^ low f) (over_both f m e d r p.val.1) ∙ ap (λ (x : ℕ). r * c - x) (over_both' f n d e w q.val.1) ∙ sym (sub-mul r w c) in
    let le_ab : b ≤ a = le_of_mul-le-mul_right {k = 2 ^ low f} (subst₂ ◌≤◌ (sym (over_both' f n d e w q.val.1)) (sym (over_both f m e d r p.val.1)) (mul-le-mul_right c h)) (pow_pos (low f)) in
    subst (λ (x : Float). Is f x false (r - w)) (sym (sub_round f m e n d le_ab))
    (finish a b c c_pos v (subst₂ (λ (x y : ℕ). Held f (x - y)) R W (less_held f m i n j (small f false m e p.fit) (small f false n d q.fit) (subst₂ ◌≤◌ (sym W) (sym R) h) (subst₂ (λ (x y : ℕ). x ≤ y + y) (sym R) (sym W) k)))
    (lt_of_le_of_lt (less r w) (is_under f false m e r p)))
  where
    less : (r w : ℕ) → r - w ≤ r
    less r w = omega arith

    finish : (a b c : ℕ) → 0 < c → (a - b) * 2 ^ low f ≡ (r - w) * c → Held f (r - w) → r - w < mid f → Is f (round f false (a - b) c) false (r - w)
    finish a b c C v (held z l Z g) u =
        fraction f (round f false (a - b) c) false (a - b) c (r - w) C (round-fits f false (a - b) c)
        (round_exact f false (a - b) c z l C Z (subst (λ (x : ℕ). x < mid f) g u) (v ∙ ap (λ (x : ℕ). x * c) g)) v

-- ---- the order
pub lt_is : (f : Format) (x y : Float) (r w : ℕ) → Is f x false r → Is f y false w → lt x y ≡ ltb r w
unfolding lt
lt_is f nan y r w p q = absurd p.val
lt_is f (inf u) y r w p q = absurd p.val
lt_is f (fin u m e) nan r w p q = absurd q.val
lt_is f (fin u m e) (inf v) r w p q = absurd q.val
lt_is f (fin true m e) (fin v n d) r w p q = absurd (true≢false p.val.0)
lt_is f (fin false m e) (fin true n d) r w p q = absurd (true≢false q.val.0)
lt_is f (fin false m e) (fin false n d) r w p q =
    scaled (m * up e * down d) (n * up d * down e) (down e * down d) (mul-pos (down_pos e) (down_pos d)) (over_both f m e d r p.val.1) (over_both' f n d e w q.val.1) (ltb r w) refl
  where
    scaled : (a b c : ℕ) → 0 < c → a * 2 ^ low f ≡ r * c → b * 2 ^ low f ≡ w * c → (t : Bool) → ltb r w ≡ t → ltb a b ≡ t
    scaled a b c C g h true t = lt-ltb a b (lt_of_mul-lt-mul_right (2 ^ low f) (subst₂ ◌<◌ (sym g) (sym h) (mul-lt-mul_of_pos_right (ltb-true r w t) C)))
    scaled a b c C g h false t = le-ltb a b (le_of_mul-le-mul_right {k = 2 ^ low f} (subst₂ ◌≤◌ (sym h) (sym g) (mul-le-mul_right c (ltb-false r w t))) (pow_pos (low f)))

rank_is : (f : Format) (x : Float) (w : ℕ) → Is f x false w → rank f x ≡ mid f + w
unfolding rank
rank_is f nan w p = absurd p.val
rank_is f (inf u) w p = absurd p.val
rank_is f (fin true m e) w p = absurd (true≢false p.val.0)
rank_is f (fin false m e) w p = ap (λ (x : ℕ). mid f + x) (grid_of f false m e w p)

-- ---- what is above 0
abbrev nought : Float
nought = fin false 0 (pos 0)

data Up (x : Float) : Type 0 where
  value : (w : ℕ) → 0 < w → w < mid binary32 → Is binary32 x false w → Up x
  over : x ≡ inf false → Up x

up_of : (x : Float) → T (fits binary32 x) → T (lt nought x) → Up x
unfolding lt
up_of nan h t = absurd t
up_of (inf true) h t = absurd t
up_of (inf false) h t = over refl
up_of (fin true m e) h t = absurd t
up_of (fin false m e) h t =
    value (grid binary32 m e) (above (grid binary32 m e) (down e) (m * up e) (2 ^ low binary32) (pow_pos (low binary32)) (grid_is binary32 false m e h) (ltb→lt (0 * down e) (m * up e * 1) t)) (grid_lt binary32 false m e h) (own binary32 false m e h)
  where
    above : (g d a l : ℕ) → 0 < l → g * d ≡ a * l → 0 * d < a * 1 → 0 < g
    above zero d a l L q h = absurd (not-zero (a * l) (mul-pos (pos_of d a h) L) (zero-times d ∙ q))
      where
        pos_of : (d a : ℕ) → 0 * d < a * 1 → 0 < a
        pos_of d a h = omega arith

        zero-times : (d : ℕ) → 0 ≡ 0 * d
        zero-times d = omega arith

        not-zero : (x : ℕ) → 0 < x → 0 ≡ x → ⊥
        not-zero x h q = omega arith
    above (suc g) d a l L q h = zero-lt-suc g

up_lt : (x : Float) (w : ℕ) → 0 < w → Is binary32 x false w → T (lt nought x)
up_lt x w h p = subst T (sym (lt_is binary32 nought x 0 w (record { fit = unfold fits in tt; val = (refl, refl) }) p)) (lt→ltb 0 w h)

-- ---- the remainder by t, from the one by 2t
half : (r w p : ℕ) → 0 < w → p ≡ r % (w + w) → (p < w → p ≡ r % w) × (w ≤ p → p - w ≡ r % w)
half r w p W e = go (r / w % 2) (mod-lt (r / w) (zero-lt-suc 1)) (e ∙ ap (λ (x : ℕ). r % x) (two w) ∙ mod-mul r (zero-lt-suc 1) W)
  where
    two : (w : ℕ) → w + w ≡ 2 * w
    two w = omega arith

    none : (p w x : ℕ) → p ≡ 0 * w + x → x < w → (p < w → p ≡ x) × (w ≤ p → p - w ≡ x)
    none p w x e l = ((λ h. omega arith), (λ h. absurd (omega arith)))

    one : (p w x : ℕ) → p ≡ 1 * w + x → x < w → (p < w → p ≡ x) × (w ≤ p → p - w ≡ x)
    one p w x e l = ((λ h. absurd (omega arith)), (λ h. omega arith))

    no_more : (k : ℕ) → suc (suc k) < 2 → ⊥
    no_more k h = omega arith

    go : (k : ℕ) → k < 2 → p ≡ k * w + r % w → (p < w → p ≡ r % w) × (w ≤ p → p - w ≡ r % w)
    go zero l e = none p w (r % w) e (mod-lt r W)
    go (suc zero) l e = one p w (r % w) e (mod-lt r W)
    go (suc (suc k)) l e = absurd (no_more k l)

rem_over : (x : Float) → T (finite x) → rem binary32 x (inf false) ≡ x
unfolding rem
rem_over nan h = absurd h
rem_over (inf s) h = absurd h
rem_over (fin s m e) h = refl

lt_over : (x : Float) → T (finite x) → lt x (inf false) ≡ true
unfolding lt
lt_over nan h = absurd h
lt_over (inf s) h = absurd h
lt_over (fin s m e) h = refl

-- below t it is the number itself
pub rem_low : (x t : Float) → T (fits binary32 x) → T (fits binary32 t) → T (lt nought x) → T (finite x) → T (lt nought t) → lt x t ≡ true → x ≡ rem binary32 x t
rem_low x t h k u n v l = go (up_of x h u) (up_of t k v)
  where
    go : Up x → Up t → x ≡ rem binary32 x t
    go (over e) T' = absurd (subst (λ (z : Float). T (finite z)) e n)
    go (value r R M p) (over e) = sym (rem_over x n) ∙ ap (λ (z : Float). rem binary32 x z) (sym e)
    go (value r R M p) (value w W N q) =
        is_unique binary32 x (rem binary32 x t) false r p
        (subst (λ (z : ℕ). Is binary32 (rem binary32 x t) false z) (mod-eq_of_lt (ltb-true r w (sym (lt_is binary32 x t r w p q) ∙ l))) (rem_is binary32 x t false false r w p q W))

-- what `remainder_up` asks where x is not below t, d being t + t: it may call itself at d, which is nearer to infinity than t, and takes t off where it must
pub record Step (x t d : Float) : Type 0 where
  pub up : T (lt nought d)
  pub falls : mid binary32 + mid binary32 - rank binary32 d < mid binary32 + mid binary32 - rank binary32 t
  pub low : lt (rem binary32 x d) t ≡ true → rem binary32 x d ≡ rem binary32 x t
  pub high : lt (rem binary32 x d) t ≡ false → sub binary32 (rem binary32 x d) t ≡ rem binary32 x t

-- of the values, and of t + t
step_of : (x t d : Float) (r w : ℕ) → 0 < w → Is binary32 x false r → Is binary32 t false w → T (lt nought d) → mid binary32 + w < rank binary32 d
    → rank binary32 d ≤ mid binary32 + mid binary32 → Is binary32 (rem binary32 x d) false (r % (w + w)) → Step x t d
step_of x t d r w W p q u g b i =
    let c : (r % (w + w) < w → r % (w + w) ≡ r % w) × (w ≤ r % (w + w) → r % (w + w) - w ≡ r % w) = half r w (r % (w + w)) W refl in
    let s : Is binary32 (rem binary32 x t) false (r % w) = rem_is binary32 x t false false r w p q W in
    record {
      up = u;
      falls = fall (mid binary32) (rank binary32 d) (rank binary32 t) b (subst (λ (z : ℕ). z < rank binary32 d) (sym (rank_is binary32 t w q)) g);
      low = λ l. is_unique binary32 (rem binary32 x d) (rem binary32 x t) false (r % w) (subst (λ (z : ℕ). Is binary32 (rem binary32 x d) false z) (c.0 (ltb-true (r % (w + w)) w (sym (lt_is binary32 (rem binary32 x d) t (r % (w + w)) w i q) ∙ l))) i) s;
      high = λ l.
          let a : w ≤ r % (w + w) = ltb-false (r % (w + w)) w (sym (lt_is binary32 (rem binary32 x d) t (r % (w + w)) w i q) ∙ l) in
          is_unique binary32 (sub binary32 (rem binary32 x d) t) (rem binary32 x t) false (r % w)
          (subst (λ (z : ℕ). Is binary32 (sub binary32 (rem binary32 x d) t) false z) (c.1 a) (sub_is binary32 (rem binary32 x d) t (r % (w + w)) w i q a (le_of_lt (mod-lt r (twice_pos w W))))) s;
    }
  where
    fall : (M a b : ℕ) → a ≤ M + M → b < a → M + M - a < M + M - b
    fall M a b h k = omega arith

    twice_pos : (w : ℕ) → 0 < w → 0 < w + w
    twice_pos w h = omega arith

up_inf : T (lt nought (inf false))
unfolding lt
up_inf = tt

rank_inf : rank binary32 (inf false) ≡ mid binary32 + mid binary32
unfolding rank
rank_inf = refl

pub step : (x t : Float) → T (fits binary32 x) → T (fits binary32 t) → T (lt nought x) → T (finite x) → T (lt nought t) → lt x t ≡ false → Step x t (add binary32 t t)
step x t h k u n v l = go (up_of x h u) (up_of t k v)
  where
    go : Up x → Up t → Step x t (add binary32 t t)
    go (over e) y = absurd (subst (λ (z : Float). T (finite z)) e n)
    go (value r R M p) (over e) = absurd (true≢false (sym (lt_over x n) ∙ ap (λ (z : Float). lt x z) (sym e) ∙ l))
    go (value r R M p) (value w W N q) = sized (ltb (w + w) (mid binary32)) refl
      where
        more : (M w : ℕ) → 0 < w → M + w < M + (w + w)
        more M w h = omega arith

        most : (M w : ℕ) → w + w < M → M + (w + w) ≤ M + M
        most M w h = omega arith

        under : (M w : ℕ) → w < M → M + w < M + M
        under M w h = omega arith

        twice_pos : (w : ℕ) → 0 < w → 0 < w + w
        twice_pos w h = omega arith

        sized : (b : Bool) → ltb (w + w) (mid binary32) ≡ b → Step x t (add binary32 t t)
        sized true e =
            let s : w + w < mid binary32 = ltb-true (w + w) (mid binary32) e in
            let i = (twice_is t w q).0 s in
            let g = rank_is binary32 (add binary32 t t) (w + w) i in
            step_of x t (add binary32 t t) r w W p q (up_lt (add binary32 t t) (w + w) (twice_pos w W) i)
            (subst (λ (z : ℕ). mid binary32 + w < z) (sym g) (more (mid binary32) w W)) (subst (λ (z : ℕ). z ≤ mid binary32 + mid binary32) (sym g) (most (mid binary32) w s))
            (rem_is binary32 x (add binary32 t t) false false r (w + w) p i (twice_pos w W))
        sized false e =
            let s : mid binary32 ≤ w + w = ltb-false (w + w) (mid binary32) e in
            subst (λ (z : Float). Step x t z) (sym ((twice_is t w q).1 s))
            (step_of x t (inf false) r w W p q (up_inf) (subst (λ (z : ℕ). mid binary32 + w < z) (sym rank_inf) (under (mid binary32) w N)) (le_of_eq rank_inf)
            (subst (λ (z : Float). Is binary32 z false (r % (w + w))) (sym (rem_over x n)) (subst (λ (z : ℕ). Is binary32 x false z) (sym (mod-eq_of_lt (lt_of_lt_of_le M s))) p)))

-- ---- the signs
pub rem_neg_right : (x y : Float) → rem binary32 x (neg y) ≡ rem binary32 x y
unfolding rem neg
rem_neg_right nan y = refl
rem_neg_right (inf s) y = refl
rem_neg_right (fin s m e) nan = refl
rem_neg_right (fin s m e) (inf t) = refl
rem_neg_right (fin s m e) (fin t n d) = refl

-- below 0
pub rem_neg_left : (x y : Float) → T (lt x nought) → neg (rem binary32 (neg x) y) ≡ rem binary32 x y
unfolding rem neg lt
rem_neg_left nan y h = absurd h
rem_neg_left (inf s) y h = refl
rem_neg_left (fin false m e) y h = absurd (no_less (m * up e * 1) (down e) (ltb→lt (m * up e * 1) (0 * down e) h))
  where
    no_less : (a d : ℕ) → a < 0 * d → ⊥
    no_less a d h = omega arith
rem_neg_left (fin true m e) nan h = refl
rem_neg_left (fin true m e) (inf t) h = refl
rem_neg_left (fin true m e) (fin t n d) h = go (eqb n 0)
  where
    go : (b : Bool) → neg (cond b nan (round binary32 false (m * up e * down d % (n * up d * down e)) (down e * down d))) ≡ cond b nan (round binary32 true (m * up e * down d % (n * up d * down e)) (down e * down d))
    go true = refl
    go false = sym (neg_round binary32 (m * up e * down d % (n * up d * down e)) (down e * down d))

pub neg_up : (x : Float) → T (lt x nought) → T (lt nought (neg x))
unfolding neg lt
neg_up nan h = absurd h
neg_up (inf true) h = tt
neg_up (inf false) h = absurd h
neg_up (fin false m e) h = absurd (no_less (m * up e * 1) (down e) (ltb→lt (m * up e * 1) (0 * down e) h))
  where
    no_less : (a d : ℕ) → a < 0 * d → ⊥
    no_less a d h = omega arith
neg_up (fin true m e) h = lt→ltb (0 * down e) (m * up e * 1) (omega (arith, ltb→lt 0 (m * up e * 1 + 0 * down e) h))

pub neg_finite : (x : Float) → T (finite x) → T (finite (neg x))
unfolding neg
neg_finite nan h = absurd h
neg_finite (inf s) h = absurd h
neg_finite (fin s m e) h = tt

-- ---- neither below 0 nor above it
-- a zero is its own remainder
pub rem_zero : (x t : Float) → T (fits binary32 x) → T (fits binary32 t) → T (finite x) → lt x nought ≡ false → lt nought x ≡ false → T (lt nought t) → x ≡ rem binary32 x t
unfolding lt
rem_zero nan t h k n a b v = absurd n
rem_zero (inf s) t h k n a b v = absurd n
rem_zero (fin true (suc m) e) t h k n a b v = absurd (signed (suc m * up e) (down e) (mul-pos (zero-lt-suc m) (up_pos e)) (ltb-false 0 (suc m * up e * 1 + 0 * down e) a))
  where
    signed : (a d : ℕ) → 0 < a → a * 1 + 0 * d ≤ 0 → ⊥
    signed a d h l = omega arith
rem_zero (fin false (suc m) e) t h k n a b v = absurd (plain (suc m * up e) (down e) (mul-pos (zero-lt-suc m) (up_pos e)) (ltb-false (0 * down e) (suc m * up e * 1) b))
  where
    plain : (a d : ℕ) → 0 < a → a * 1 ≤ 0 * d → ⊥
    plain a d h l = omega arith
rem_zero (fin s zero e) t h k n a b v = go (up_of t k v)
  where
    no_units : (u l d : ℕ) → 0 * u * l ≡ 0 * d
    no_units u l d = omega arith

    none : Is binary32 (fin s zero e) s 0
    none = record { fit = h; val = (refl, no_units (up e) (2 ^ low binary32) (down e)) }

    go : Up t → fin s zero e ≡ rem binary32 (fin s zero e) t
    go (over q) = sym (rem_over (fin s zero e) tt) ∙ ap (λ (z : Float). rem binary32 (fin s zero e) z) (sym q)
    go (value w W N q) =
        is_unique binary32 (fin s zero e) (rem binary32 (fin s zero e) t) s 0 none
        (subst (λ (z : ℕ). Is binary32 (rem binary32 (fin s zero e) t) s z) (mod-eq_of_lt W) (rem_is binary32 (fin s zero e) t s false 0 w none q W))

-- there is no remainder by a zero or a NaN
pub rem_none : (x y : Float) → T (finite x) → lt y nought ≡ false → lt nought y ≡ false → div binary32 y y ≡ rem binary32 x y
unfolding lt div rem
rem_none nan y n a b = absurd n
rem_none (inf s) y n a b = absurd n
rem_none (fin s m e) nan n a b = refl
rem_none (fin s m e) (inf true) n a b = absurd (true≢false a)
rem_none (fin s m e) (inf false) n a b = absurd (true≢false b)
rem_none (fin s m e) (fin t zero d) n a b = refl
rem_none (fin s m e) (fin true (suc k) d) n a b = absurd (signed (suc k * up d) (down d) (mul-pos (zero-lt-suc k) (up_pos d)) (ltb-false 0 (suc k * up d * 1 + 0 * down d) a))
  where
    signed : (a d : ℕ) → 0 < a → a * 1 + 0 * d ≤ 0 → ⊥
    signed a d h l = omega arith
rem_none (fin s m e) (fin false (suc k) d) n a b = absurd (plain (suc k * up d) (down d) (mul-pos (zero-lt-suc k) (up_pos d)) (ltb-false (0 * down d) (suc k * up d * 1) b))
  where
    plain : (a d : ℕ) → 0 < a → a * 1 ≤ 0 * d → ⊥
    plain a d h l = omega arith

-- nor of an infinity or a NaN
pub rem_infinite : (x y : Float) → finite x ≡ false → sub binary32 x x ≡ rem binary32 x y
unfolding rem sub add neg
rem_infinite nan y h = refl
rem_infinite (inf true) y h = refl
rem_infinite (inf false) y h = refl
rem_infinite (fin s m e) y h = absurd (true≢false h)
