-- The table of the known names follows the definition's list of formats, entry by entry, and the search through it finds what the definition finds.
use Prim.Native.Nat.{ℕ, ◌+◌, ◌*◌, ◌^◌, ◌<◌, ◌≤◌}
use mathlib.Core.Path.{◌≡◌, refl, ap, sym, ◌∙◌}
use mathlib.Core.Bool.{Bool, true, false, ◌&&◌, ◌||◌, cond}
use mathlib.Core.Option as M
use mathlib.Core.Option.{none, some}
use mathlib.Core.List.{List, [], ◌∷◌, map}
use native.Mathlib.Omega.{arith}
use native.Mathlib.Numerals.{add-one}
use lib.ListN.{length, get_or, drop}
use lib.Seq.{drop-cons}
use lib.Dec.{T, eqb}
use lib.Pow.{are_bytes, pow-add, pow_mono}
use lib.Dec.{ltb}
use lib.Ieee.Fits.{and_l, and_r}
use borrow.Author.Tests.{eq-eqb, ne_eqb, ltb-true, ltb-false}
use Rattle.std.proofs.lemmas.List.{drop_all}
use Rattle.std.proofs.lemmas.Bool.{false≢true}
use Rattle.std.specs.List.{find, list_all}
use Rattle.std.specs.Option.{option_map}
use Rattle.std.specs.declared.option.Option.{Option}
use Rattle.std.specs.declared.option.Option.TheVariants.{Some, None}
use Rattle.format.specs.Byte.{same_bytes}
use Rattle.format.specs.Byte as B
use Rattle.format.specs.Word as F
use Rattle.format.specs.Word.{format, formats, format_in, join_after, joined, big}
use Rattle.format.proofs.SameBytes.{same_bytes_lem, same_refl}
use Rattle.words.specs.declared.formats.Format.{Format}
use Rattle.words.specs.Known.{name_number, format_of, nameless, said, found}
use Rattle.words.proofs.Joins.{joined_same, joined-below, bytes_of}

-- numbers of names with other lengths differ
shorter_below : (x y : List ℕ) → T (are_bytes x) → length x < length y → name_number x < name_number y
shorter_below x y p h =
    let more : 2 ^ (8 * length x + 1) ≤ 2 ^ (8 * length y) = pow_mono {i = 8 * length x + 1} {j = 8 * length y} (omega arith) in
    omega (arith, joined-below big x p, pow-add 2 (8 * length x) 1)

number_same : (x y : List ℕ) → T (are_bytes x) → T (are_bytes y) → name_number x ≡ name_number y → x ≡ y
number_same x y p q e = by (ltb (length x) (length y)) (ltb (length y) (length x)) refl refl
  where
    by : (a b : Bool) → ltb (length x) (length y) ≡ a → ltb (length y) (length x) ≡ b → x ≡ y
    by true b s t = absurd (omega (arith, e, shorter_below x y p (ltb-true (length x) (length y) s)))
    by false true s t = absurd (omega (arith, e, shorter_below y x q (ltb-true (length y) (length x) t)))
    by false false s t =
        let l : length x ≡ length y = omega (arith, ltb-false (length x) (length y) s, ltb-false (length y) (length x) t) in
        let high : 2 ^ (8 * length x) ≡ 2 ^ (8 * length y) = ap (λ (n : ℕ). 2 ^ (8 * n)) l in
        joined_same x y l p q (omega (arith, e, high))

-- an entry of the table, and the one that a format has there: the name as a number, and what it says
pub record Entry : Type 0 where
  pub name : ℕ
  pub says : F.Format

abbrev pub entry : Format → Entry
entry e = record { name = e.name; says = format_of e.layout }

abbrev pub entry_of : F.Format → Entry
entry_of f = record { name = name_number f.name; says = nameless f }

-- the names are bytes, five or two of them
abbrev spelt : F.Format → Bool
spelt f = are_bytes f.name && (eqb (length f.name) 5 || eqb (length f.name) 2)

all_spelt : T (list_all spelt formats)
unfolding formats format B.bytes_of
all_spelt = tt

-- an entry passes the search where its format has the name that is looked for
name_tested : (e : Format) (f : F.Format) → entry e ≡ entry_of f → T (are_bytes f.name) → (name : List ℕ) → T (are_bytes name)
    → eqb e.name (name_number name) ≡ same_bytes f.name name
name_tested e f m p name q = by (same_bytes f.name name) refl
  where
    number : e.name ≡ name_number f.name
    number = ap (λ (x : Entry). x.name) m

    by : (s : Bool) → same_bytes f.name name ≡ s → eqb e.name (name_number name) ≡ s
    by true s = eq-eqb e.name (name_number name) (number ∙ ap name_number (same_bytes_lem f.name name s))
    by false s =
        ne_eqb e.name (name_number name)
        (λ d. let same = ap (same_bytes f.name) (number_same f.name name p q (sym number ∙ d)) in false≢true (sym s ∙ sym same ∙ same_refl f.name))

-- what the search through a table answers that follows a list of formats, each with a name of bytes
find-follows : (es : List Format) (fs : List F.Format) → map entry es ≡ map entry_of fs → T (list_all spelt fs) → (name : List ℕ) → T (are_bytes name)
    → said (option_map (λ e. e.layout) (find (λ e. eqb e.name (name_number name)) es)) ≡ found (format_in fs name)
unfolding format_in said found
find-follows [] [] m s name q = refl
find-follows [] (f ∷ fs) m s name q = cc
find-follows (e ∷ es) [] m s name q = cc
find-follows (e ∷ es) (f ∷ fs) m s name q =
    let here : entry e ≡ entry_of f = cc in
    let rest : map entry es ≡ map entry_of fs = cc in
    let test = name_tested e f here (and_l (are_bytes f.name) (eqb (length f.name) 5 || eqb (length f.name) 2) (and_l (spelt f) (list_all spelt fs) s)) name q in
    rw test (by (same_bytes f.name name) (ap (λ (x : Entry). x.says) here) (find-follows es fs rest (and_r (spelt f) (list_all spelt fs) s) name q))
  where
    by : (b : Bool) → format_of e.layout ≡ (entry_of f).says
        → said (option_map (λ e. e.layout) (find (λ e. eqb e.name (name_number name)) es)) ≡ found (format_in fs name)
        → said (option_map (λ e. e.layout) (cond b (Some e) (find (λ e. eqb e.name (name_number name)) es))) ≡ found (elim b [ true ↦ some f | false ↦ format_in fs name ])
    by true says more = ap Some says
    by false says more = more

-- a name of another length is not there
other-passed : (fs : List F.Format) → T (list_all spelt fs) → (name : List ℕ) → (length name ≡ 5 → ⊥) → (length name ≡ 2 → ⊥) → format_in fs name ≡ none
unfolding format_in
other-passed [] s name h g = refl
other-passed (f ∷ fs) s name h g =
    by (same_bytes f.name name) refl (and_r (are_bytes f.name) (eqb (length f.name) 5 || eqb (length f.name) 2) (and_l (spelt f) (list_all spelt fs) s))
    (other-passed fs (and_r (spelt f) (list_all spelt fs) s) name h g)
  where
    by : (b : Bool) → same_bytes f.name name ≡ b → T (eqb (length f.name) 5 || eqb (length f.name) 2) → format_in fs name ≡ none
        → elim b as (λ _. M.Option F.Format) [ true ↦ some f | false ↦ format_in fs name ] ≡ none
    by true e own more =
        let same : length name ≡ length f.name = sym (ap (λ (l : List ℕ). length l) (same_bytes_lem f.name name e)) in
        absurd (rw (ne_eqb (length f.name) 5 (λ d. h (same ∙ d)), ne_eqb (length f.name) 2 (λ d. g (same ∙ d))) at own)
    by false e own more = more

pub other-unknown : (name : List ℕ) → (length name ≡ 5 → ⊥) → (length name ≡ 2 → ⊥) → said None ≡ found (format_in formats name)
unfolding said found
other-unknown name h g = rw (other-passed formats all_spelt name h g) refl

-- what the code answers: the layout of the entry that the search finds
table-found : (table : List Format) → map entry table ≡ map entry_of formats → (name : List ℕ) → ((i : ℕ) → get_or name i 0 < 256) → (number : ℕ)
    → number ≡ name_number name
    → (o : Option Format) → find (λ e. eqb e.name number) table ≡ o → said (option_map (λ e. e.layout) o) ≡ found (format_in formats name)
table-found table m name known number n o f = rw (← f, n) (find-follows table formats m all_spelt name (bytes_of name (λ i u. known i)))

-- the table follows the definition's list, and what is looked for is no entry before the i-th
pub record Passed (number i : ℕ) (table : List Format) : Type 0 where
  pub follows : map entry table ≡ map entry_of formats
  pub same : find (λ e. eqb e.name number) (drop i table) ≡ find (λ e. eqb e.name number) table

-- a name of bytes, and its number
module _ (name : List ℕ) (known : (i : ℕ) → get_or name i 0 < 256) (number : ℕ) (e : number ≡ name_number name)
    (table : List Format) (i : ℕ) (p : Passed number i table) where
  abbrev answer : Option F.Format
  answer = found (format_in formats name)

  abbrev is : Format → Bool
  is f = eqb f.name number

  -- the i-th entry
  module _ (h : i < length table) (d : Format) where
    abbrev f : Format
    f = get_or table i d

    rest : find is table ≡ cond (is f) (Some f) (find is (drop (i + 1) table))
    rest = sym p.same ∙ ap (find is) (drop-cons table i d h) ∙ rw add-one refl

    pub one_passed : (f.name ≡ number → ⊥) → Passed number (i + 1) table
    one_passed q = record { follows = p.follows; same = sym (rw (ne_eqb f.name number q) at rest) }

    pub one-found : f.name ≡ number → said (Some f.layout) ≡ answer
    one-found q = table-found table p.follows name known number e (Some f) (rest ∙ rw (eq-eqb f.name number q) refl)

  pub none-found : length table ≤ i → said None ≡ answer
  none-found h = table-found table p.follows name known number e None (sym p.same ∙ rw (drop_all i table h) refl)
