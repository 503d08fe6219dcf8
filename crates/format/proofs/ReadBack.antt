-- Theorem 4: the machine reads a sound term's plain text back.
use Prim.Native.Nat.{ℕ, zero, suc, ◌+◌, ◌-◌, ◌/◌, ◌%◌, ◌≤◌, ◌<◌}
use Prim.Native.Char.{code}
use mathlib.Core.Path.{◌≡◌, refl, ap, ap₂, sym, ◌∙◌, subst}
use mathlib.Core.Bool.{Bool, true, false}
use mathlib.Core.Option.{none, some}
use mathlib.Core.List.{List, [], ◌∷◌, ◌++◌, append_assoc, reverse, reverse_aux, reverse_aux-eq, reverse-reverse}
use mathlib.Core.Logic.{inl, inr}
use native.Mathlib.Nat.{add-zero, zero-add}
use native.Mathlib.Omega.{arith}
use native.Mathlib.Numerals.{add-one}
use lib.IntN.{ℤ, pos, negsuc, neg_ℤ}
use lib.ListN.{length, take, length-append}
use lib.Seq.{take-append_seam, get_or-append_seam}
use lib.Dec.{eqb, ltb, T, eqb_refl}
use lib.Ieee.Bits.{is_true}
use lib.Ieee.Fits.{and_l, and_r}
use borrow.Author.Tests.{ltb-true, ltb-false, lt-leb}
use Rattle.std.specs.List.{range_with_len}
use Rattle.std.proofs.lemmas.Bool.{cases_Bool}
use Rattle.std.proofs.lemmas.List.{length_push}
use Rattle.format.specs.Byte as B
use Rattle.format.specs.Byte.{class_of, class_in, specials, has_class}
use Rattle.format.specs.Term as T
use Rattle.format.specs.Term.{Term, Terms, ◌then◌, terms_from}
use Rattle.format.specs.Text.{digits_on, natural_on, decimal_on, between, text_on, items_on, fields_on, plain}
use Rattle.format.specs.Lex.{Item, integer_item, atom_item, string_item, tag_item, closed_at, scan, quoted_item, quoted, digits, in_range, integer_of, negative, item_of, lex}
use Rattle.format.specs.Machine.{Machine, Limits, Outcome, Result, refused, accepted, run, go, base, start, fresh, take_binary, cons_list, only_value, end_message, step, follow, run_free_from, run_free}
use Rattle.format.specs.Meaning.{term_integer, term_is_list, items_of, term_of, term_values, accepted_value, message_term}
use Rattle.format.specs.Sound.{spelled, sound_term, sound_terms}
use Rattle.format.proofs.Limits.{Under, NoRoom, refuses, accepts, short, under-limits}
use Rattle.format.proofs.Table.{entry}
use Rattle.format.proofs.FreeRun.{free-skip, pop_ok, close_ok}

-- the closing quote is found where the spelled bytes end
scan-spelled : (quote : ℕ) (escaped : Bool) (k : ℕ) (b r : List ℕ) → T (spelled quote escaped b) → scan quote escaped k (b ++ quote ∷ r) ≡ closed_at (k + length b)
unfolding scan spelled
scan-spelled quote true k [] r t = absurd t
scan-spelled quote false k [] r t = rw (is_true (eqb quote quote) (eqb_refl quote), scan) (ap closed_at (sym (add-zero k)))
scan-spelled quote true k (c ∷ b) r t = grind (arith, scan-spelled quote false (suc k) b r, and_l, and_r)
scan-spelled quote false k (c ∷ b) r t = grind (arith, scan-spelled quote (eqb c (code "\\")) (suc k) b r, and_l, and_r)

quoted-spelled : (quote : ℕ) (item : ℕ → Item) (b r : List ℕ) → T (spelled quote false b) → quoted quote item (b ++ quote ∷ r) ≡ item (length b)
unfolding quoted quoted_item
quoted-spelled quote item b r t = rw (scan-spelled quote false 0 b r t, zero-add)

digit_class : (d : ℕ) → d < 10 → class_of (code "0" + d) ≡ B.digit
unfolding class_of class_in specials
digit_class d h = sym (entry (λ (n : ℕ). B.digit) (λ k. class_of (code "0" + k)) (range_with_len 0 10) 10 0 refl d h)

-- a text that begins with the digits of n; rest comes after them
record Written (n : ℕ) (rest text : List ℕ) : Type 0 where
  first : ℕ
  others : List ℕ
  splits : text ≡ first ∷ others ++ rest
  begins : class_of first ≡ B.digit
  worth : (j : ℕ) → digits (first - code "0") j (others ++ rest) ≡ digits n (j + length others) rest

one_digit : (n : ℕ) (rest : List ℕ) → n < 10 → Written n rest ((code "0" + n) ∷ rest)
one_digit n rest h = record {
  first = code "0" + n;
  others = [];
  splits = refl;
  begins = digit_class n h;
  worth = λ j. ap₂ (λ (v k : ℕ). digits v k rest) (omega arith) (omega arith);
}

one_more : (n : ℕ) (rest text : List ℕ) → Written (n / 10) ((code "0" + n % 10) ∷ rest) text → Written n rest text
unfolding digits has_class
one_more n rest text w = record {
  first = w.first;
  others = w.others ++ ((code "0" + n % 10) ∷ []);
  splits = rw append_assoc w.splits;
  begins = w.begins;
  worth = λ j.
      rw append_assoc (w.worth j ∙ rw (digit_class (n % 10) (omega arith), digits)
      (ap₂ (λ (v k : ℕ). digits v k rest) (omega arith) (omega (arith, length-append w.others ((code "0" + n % 10) ∷ [])))));
}

written : (f n : ℕ) (rest : List ℕ) → n ≤ f → Written n rest (digits_on f n rest)
unfolding digits_on
written zero n rest h = one_digit n rest (omega arith)
written (suc f) n rest h = elim (cases_Bool (ltb n 10)) [
  | inl e ↦ rw (e, digits_on) (one_digit n rest (ltb-true n 10 e))
  | inr e ↦ rw (e, digits_on) (one_more n rest _ (written f (n / 10) ((code "0" + n % 10) ∷ rest) (omega (arith, ltb-false n 10 e))))
]

natural-written : (n : ℕ) (rest : List ℕ) → Written n rest (natural_on n rest)
unfolding natural_on
natural-written n rest = written n n rest (omega arith)

-- digits end at a byte that is none
integer-ends : (sign : ℕ → ℤ) (v k stop : ℕ) (r : List ℕ) → has_class B.digit stop ≡ false → T (in_range (sign v))
    → integer_of sign (digits v k (stop ∷ r)) ≡ integer_item (sign v) k
unfolding digits integer_of
integer-ends sign v k stop r d h = rw (d, digits) (rw (is_true (in_range (sign v)) h, integer_of))

-- with stack and marks given; a plain text uses no register
abbrev state : List Term → List ℕ → Machine term_values
state st marks = record { stack = st; marks = marks; registers = λ r. none; memory = tt }

-- the run from m on text comes to m' on rest
record Reads (text rest : List ℕ) (m m' : Machine term_values) (at : ℕ) : Type 0 where
  after : ℕ
  goes : run_free_from term_values text 0 at m ≡ run_free_from term_values rest 0 after m'
  counts : after + length rest ≡ at + length text

read_nothing : (text : List ℕ) (m : Machine term_values) (at : ℕ) → Reads text text m m at
read_nothing text m at = record { after = at; goes = refl; counts = refl }

-- one item: its first byte, the bytes xs after it, and the rows that it makes
read-item : (c : ℕ) (xs : List ℕ) (rows : ℕ) {r rest : List ℕ} {m m' : Machine term_values} {at : ℕ}
    → r ≡ xs ++ rest → step term_values at r m (lex c r) ≡ go (length xs) rows m' → Reads (c ∷ r) rest m m' at
unfolding run_free_from follow
read-item c xs rows {r} {rest} {m} {m'} {at} e s = record {
  after = suc at + length xs;
  goes = rw (s, e) (free-skip term_values xs rest (suc at) m');
  counts = rw e (omega (arith, length-append xs rest));
}

-- two runs, one after the other
read_then : {text mid rest : List ℕ} {m m' m'' : Machine term_values} {at : ℕ}
    (p : Reads text mid m m' at) → Reads mid rest m' m'' p.after → Reads text rest m m'' at
read_then p q = record { after = q.after; goes = p.goes ∙ q.goes; counts = omega (arith, p.counts, q.counts) }

-- the fields of a tuple as the machine holds them
list_of : Terms → List Term
list_of T.none = []
list_of (t then ts) = t ∷ list_of ts

terms_back : (ts : Terms) → terms_from (list_of ts) ≡ ts
unfolding terms_from list_of
terms_back T.none = refl
terms_back (t then ts) = ap (λ (us : Terms). t then us) (terms_back ts)

-- one name for the definitions that the step of an item goes through
stepping : Unit {0}
unfolding lex item_of class_of class_in specials step fresh term_of
stepping = tt

-- the items that a plain text is made of, in front of rest
module _ (rest : List ℕ) (st : List Term) (marks : List ℕ) (at : ℕ) where
  -- bytes between two quotes, where the item makes `make` of them
  read-quoted : (quote : ℕ) (item : ℕ → Item) (make : List ℕ → Term) (before : List Term)
      → ((r : List ℕ) → lex quote r ≡ quoted quote item r)
      → ((k : ℕ) (r : List ℕ) → step term_values at r (state before marks) (item k) ≡ go (suc k) 1 (state (make (take k r) ∷ st) marks))
      → (b : List ℕ) → T (spelled quote false b) → Reads (between quote b rest) rest (state before marks) (state (make b ∷ st) marks) at
  read-quoted quote item make before lexed stepped b t =
      read-item quote (b ++ (quote ∷ [])) 1 (sym (append_assoc b (quote ∷ []) rest))
      (rw (lexed, quoted-spelled quote item b rest t, stepped, take-append_seam, length_push, add-one))

  read-tag : (t : Term) → base marks ≤ length st → (b : List ℕ) → T (spelled (code "`") false b)
      → Reads (between (code "`") b rest) rest (state (t ∷ st) marks) (state (T.tag b t ∷ st) marks) at
  unfolding stepping
  read-tag t h = read-quoted (code "`") tag_item (λ b. T.tag b t) (t ∷ st) (λ r. refl) (λ k r. pop_ok term_values at marks t st _ h)

  -- after the count, a binary's bytes between two `~`
  read-bytes : (b : List ℕ) → base marks ≤ length st
      → Reads (between (code "~") b rest) rest (state (T.int (pos (length b)) ∷ st) marks) (state (T.binary b ∷ st) marks) at
  unfolding stepping take_binary term_integer
  read-bytes b h =
      let fits : length b < length (b ++ code "~" ∷ rest) = simp length-append (omega arith) in
      read-item (code "~") (b ++ (code "~" ∷ [])) 1 (sym (append_assoc b (code "~" ∷ []) rest))
      (pop_ok term_values at marks (T.int (pos (length b))) st _ h
      ∙ rw (lt-leb (length (b ++ code "~" ∷ rest)) (length b) fits, take_binary) (rw (get_or-append_seam, take-append_seam, length_push, add-one)))

  -- a decimal, in front of a byte that is no digit
  read-natural : (stop n : ℕ) → has_class B.digit stop ≡ false → T (in_range (pos n))
      → Reads (natural_on n (stop ∷ rest)) (stop ∷ rest) (state st marks) (state (T.int (pos n) ∷ st) marks) at
  unfolding lex item_of step fresh term_of
  read-natural stop n d h =
      let w = natural-written n (stop ∷ rest) in
      rw w.splits (read-item w.first w.others 1 refl (rw (w.begins, w.worth 0, zero-add, integer-ends (λ v. pos v) n (length w.others) stop rest d h)))

  read-negative : (stop n : ℕ) → has_class B.digit stop ≡ false → T (in_range (negsuc n))
      → Reads (code "-" ∷ natural_on (suc n) (stop ∷ rest)) (stop ∷ rest) (state st marks) (state (T.int (negsuc n) ∷ st) marks) at
  unfolding stepping has_class negative
  read-negative stop n d h =
      let w = natural-written (suc n) (stop ∷ rest) in
      rw w.splits (read-item (code "-") (w.first ∷ w.others) 1 refl
      (rw (w.begins, negative) (rw (w.worth 1, integer-ends (λ v. neg_ℤ (pos v)) (suc n) (1 + length w.others) stop rest d h)
      (ap (λ (k : ℕ). go k 1 (state (T.int (negsuc n) ∷ st) marks)) (omega arith)))))

  -- the fields were pushed first to last
  read_close : (ts : Terms) → Reads (code "}" ∷ rest) rest (state (reverse_aux (list_of ts) st) (length st ∷ marks)) (state (T.tuple ts ∷ st) marks) at
  unfolding stepping
  read_close ts =
      let pushed = reverse_aux (list_of ts) st in
      read-item (code "}") [] (suc (length (reverse (list_of ts)))) refl
      (close_ok term_values at (state pushed (length st ∷ marks)) marks (reverse (list_of ts)) st (reverse_aux-eq (list_of ts) st) ∙ rw (reverse-reverse, terms_back))

  read-ampersand : (t : Term) (ts : Terms) → base marks ≤ length st
      → Reads (code "&" ∷ rest) rest (state (t ∷ T.list ts ∷ st) marks) (state (T.list (t then ts) ∷ st) marks) at
  unfolding stepping cons_list term_is_list items_of
  read-ampersand t ts h = read-item (code "&") [] 1 refl
      (pop_ok term_values at marks t (T.list ts ∷ st) _ (omega arith) ∙ pop_ok term_values at marks (T.list ts) st _ h)

no_digit : (has_class B.digit (code " ") ≡ false) × (has_class B.digit (code "~") ≡ false)
unfolding has_class class_of class_in specials
no_digit = (refl, refl)

read-integer : (z : ℤ) (rest : List ℕ) (st : List Term) (marks : List ℕ) (at : ℕ) → T (in_range z)
    → Reads (decimal_on z (code " " ∷ rest)) rest (state st marks) (state (T.int z ∷ st) marks) at
unfolding stepping decimal_on
read-integer (pos n) rest st marks at s = read_then (read-natural rest st marks at (code " ") n no_digit.0 s) (read-item (code " ") [] 0 refl refl)
read-integer (negsuc n) rest st marks at s = read_then (read-negative rest st marks at (code " ") n no_digit.0 s) (read-item (code " ") [] 0 refl refl)

-- a term's text leaves the term on the stack
mutual
  unfolding stepping text_on sound_term in_range list_of base

  read-term : (t : Term) (rest : List ℕ) (st : List Term) (marks : List ℕ) (at : ℕ) → T (sound_term t) → base marks ≤ length st
      → Reads (text_on t rest) rest (state st marks) (state (t ∷ st) marks) at
  read-term (T.int z) rest st marks at s h = read-integer z rest st marks at s
  read-term (T.atom b) rest st marks at s h = read-quoted rest st marks at (code "'") atom_item T.atom st (λ r. refl) (λ k r. refl) b s
  read-term (T.string b) rest st marks at s h = read-quoted rest st marks at (code "\"") string_item T.string st (λ r. refl) (λ k r. refl) b s
  read-term (T.binary b) rest st marks at s h =
      read_then (read-natural (b ++ code "~" ∷ rest) st marks at (code "~") (length b) no_digit.1 s) (read-bytes rest st marks _ b h)
  read-term (T.list ts) rest st marks at s h = read_then (read-item (code "#") [] 1 refl refl) (read_items ts rest st marks _ s h)
  read-term (T.tuple ts) rest st marks at s h =
      read_then (read-item (code "{") [] 0 refl refl)
      (read_then (read_fields ts (code "}" ∷ rest) st (length st ∷ marks) _ s (omega arith)) (read_close rest st marks _ ts))
  read-term (T.tag b t) rest st marks at s h =
      read_then (read-term t (between (code "`") b rest) st marks at (and_r (spelled (code "`") false b) (sound_term t) s) h)
      (read-tag rest st marks _ t h b (and_l (spelled (code "`") false b) (sound_term t) s))

  read_items : (ts : Terms) (rest : List ℕ) (st : List Term) (marks : List ℕ) (at : ℕ) → T (sound_terms ts) → base marks ≤ length st
      → Reads (items_on ts rest) rest (state (T.list T.none ∷ st) marks) (state (T.list ts ∷ st) marks) at
  read_items T.none rest st marks at s h = read_nothing rest _ at
  read_items (t then ts) rest st marks at s h =
      read_then (read_items ts (text_on t (code "&" ∷ rest)) st marks at (and_r (sound_term t) (sound_terms ts) s) h)
      (read_then (read-term t (code "&" ∷ rest) (T.list ts ∷ st) marks _ (and_l (sound_term t) (sound_terms ts) s) (omega arith))
      (read-ampersand rest st marks _ t ts h))

  read_fields : (ts : Terms) (rest : List ℕ) (st : List Term) (marks : List ℕ) (at : ℕ) → T (sound_terms ts) → base marks ≤ length st
      → Reads (fields_on ts rest) rest (state st marks) (state (reverse_aux (list_of ts) st) marks) at
  read_fields T.none rest st marks at s h = read_nothing rest _ at
  read_fields (t then ts) rest st marks at s h =
      read_then (read-term t (fields_on ts rest) st marks at (and_l (sound_term t) (sound_terms ts) s) h)
      (read_fields ts rest (t ∷ st) marks _ (and_r (sound_term t) (sound_terms ts) s) (omega arith))

-- the plain text of a sound term, read by the machine with nothing else, gives that term and consumes all of it
pub read_back : (t : Term) → T (sound_term t) → run_free term_values (plain t) ≡ accepted (length (plain t)) t
unfolding stepping plain run_free run_free_from follow start end_message only_value base
read_back t s =
    let r = read-term t (code "$" ∷ []) [] [] 0 s (omega arith) in
    r.goes ∙ ap (λ (n : ℕ). accepted n t) (omega (arith, r.counts))

pub message-term_of_text : (t : Term) → T (sound_term t) → message_term (plain t) ≡ some t
unfolding message_term accepted_value
message-term_of_text t s = ap accepted_value (read_back t s)

-- plain text tells sound terms apart
pub plain_injective : (t u : Term) → T (sound_term t) → T (sound_term u) → plain t ≡ plain u → t ≡ u
plain_injective t u s s' e =
    let same : some t ≡ some u = sym (message-term_of_text t s) ∙ ap message_term e ∙ message-term_of_text u s' in
    cc

-- the same under limits: that term, with all of the text consumed, or no room
pub data ReadsBack (t : Term) : Outcome (Result term_values) → Type 0 where
  whole : (rows : ℕ) → ReadsBack t (accepted (length (plain t)) (record { used = rows; root = t; memory = tt }))
  no_room : (n p : ℕ) → NoRoom n → ReadsBack t (refused n p)

pub read-back_limits : (lim : Limits) (t : Term) → T (sound_term t) → ReadsBack t (run term_values lim (plain t))
read-back_limits lim t s = reads (under-limits term_values lim (plain t)) (read_back t s)
  where
    reads : {a : Outcome (Result term_values)} {b : Outcome Term} → Under term_values lim a b → b ≡ accepted (length (plain t)) t → ReadsBack t a
    reads (refuses n p) e = absurd (cc)
    reads (accepts k res) e =
        let here : k ≡ length (plain t) = cc in
        let root : res.root ≡ t = cc in
        rw here (subst (λ (u : Term). ReadsBack t (accepted (length (plain t)) (record { used = res.used; root = u; memory = tt }))) (sym root) (whole res.used))
    reads (short n p h) e = no_room n p h
