-- 01, 'The machine', and from 'Refusal numbers' when each of 3 to 14 and 17 is given, in each item's order:
-- the UBF(A) stack machine, over any notion of value. 12, 13 and 14 stand last in every item's order, so one check after the step
-- gives them; an item whose order leaves one of them out adds nothing to that table, which had room before.
use Rattle.std.specs.Prelude.{ℕ, zero, suc, ◌+◌, ◌-◌, Bool, cond, List, [], ◌∷◌, reverse, ℤ, pos, negsuc, length, take, drop, get_or, ltb, leb, eqb}
use Prim.Native.Char.{code}
use Rattle.std.proofs.Math.Option.{Option, none, some}
use Rattle.format.specs.Lex.{Item, white_item, comment_item, atom_item, string_item, tag_item, integer_item, open_item, close_item, tilde_item, hash_item, ampersand_item, end_item, store_item, push_item, cut, stray, too_large, lex}

-- what an item makes a value from; a span of the message is given by its offset and its bytes
pub data Shape (A : Type 0) : Type 0 where
  integer : ℤ → Shape A
  atom string binary : ℕ → List ℕ → Shape A
  nil : Shape A
  cons : A → A → Shape A
  tuple : List A → Shape A
  tag : ℕ → List ℕ → A → Shape A

-- a notion of value: what is kept of the values made so far, how the item at an offset makes one more,
-- and the two things that the machine asks of a value
pub record Values : Type 1 where
  pub Memory : Type 0
  pub Value : Type 0
  pub empty : Memory
  pub make : ℕ → Shape Value → Memory → Memory × Value
  pub integer_in : Memory → Value → Option ℤ
  pub is_list : Memory → Value → Bool

-- room in rows, stack and marks (01's noted depths)
pub record Limits : Type 0 where
  pub rows : ℕ
  pub stack : ℕ
  pub marks : ℕ

-- what comes of a message: refused with a number at a place, or accepted after so many bytes
pub data Outcome (A : Type 0) : Type 0 where
  refused : ℕ → ℕ → Outcome A
  accepted : ℕ → A → Outcome A

-- the depth above which every pop must lie: the mark noted last
unfoldable pub base : List ℕ → ℕ
base [] = 0
base (d ∷ ds) = d

module _ (𝒱 : Values) where
  -- what the machine holds; the stack's top and the mark noted last come first
  pub record Machine : Type 0 where
    pub stack : List 𝒱.Value
    pub marks : List ℕ
    pub registers : ℕ → Option 𝒱.Value
    pub memory : 𝒱.Memory

  -- at the start stack and registers are empty and no depth is noted
  unfoldable pub start : Machine
  start = record { stack = []; marks = []; registers = λ r. none; memory = 𝒱.empty }

  -- what an item does: it refuses with a number at a place; goes on past so many bytes after its first, so many rows made; or ends the message
  pub data Step : Type 0 where
    refuse : ℕ → ℕ → Step
    go : ℕ → ℕ → Machine → Step
    finish : 𝒱.Value → Step

  -- a new value over the stack st, made by the item at `at`
  unfoldable pub fresh : ℕ → Shape 𝒱.Value → List 𝒱.Value → List ℕ → Machine → Machine
  fresh at shape st marks m = record {
    stack = (𝒱.make at shape m.memory).1 ∷ st;
    marks = marks;
    registers = m.registers;
    memory = (𝒱.make at shape m.memory).0;
  }

  -- the registers after a store
  unfoldable pub set_register : ℕ → 𝒱.Value → (ℕ → Option 𝒱.Value) → ℕ → Option 𝒱.Value
  set_register r v old x = cond (eqb x r) (some v) (old x)

  -- 6, or a pop from the stack by the operator at `at`, and what comes of the value and the stack under it
  unfoldable pub pop : ℕ → List ℕ → List 𝒱.Value → (𝒱.Value → List 𝒱.Value → Step) → Step
  pop at marks [] next = refuse 6 at
  pop at marks (v ∷ st) next = cond (ltb (length st) (base marks)) (refuse 6 at) (next v st)

  -- `~`, its count popped: 7 if that is no integer, 8 if negative, 3 at or beyond the bytes left, 4 if no `~` follows the n bytes
  unfoldable pub take_binary : ℕ → List ℕ → Machine → List 𝒱.Value → Option ℤ → Step
  take_binary at r m st none = refuse 7 at
  take_binary at r m st (some (negsuc n)) = refuse 8 at
  take_binary at r m st (some (pos n)) =
      cond (leb (length r) n) (refuse 3 (suc at + length r))
      (cond (eqb (get_or r n 0) (code "~")) (go (suc n) 1 (fresh at (binary (suc at) (take n r)) st m.marks m)) (refuse 4 (suc at + n)))

  -- `&`, item v and list l popped: 7, or v before l
  unfoldable pub cons_list : ℕ → Machine → 𝒱.Value → 𝒱.Value → List 𝒱.Value → Step
  cons_list at m v l st = cond (𝒱.is_list m.memory l) (go 0 1 (fresh at (cons v l) st m.marks m)) (refuse 7 at)

  -- `}`: 10 with nothing noted, 17 at a depth under the mark, or a tuple of all above it, in the order they came
  unfoldable pub close_tuple : ℕ → Machine → List ℕ → Step
  close_tuple at m [] = refuse 10 at
  close_tuple at m (d ∷ ds) =
      let k = length m.stack - d in
      cond (ltb (length m.stack) d) (refuse 17 at)
      (go 0 (suc k) (fresh at (tuple (reverse (take k m.stack))) (drop k m.stack) ds m))

  -- a push of what a register holds: 9 if it is empty, or a copy, and the register keeps it
  unfoldable pub push_register : ℕ → Machine → Option 𝒱.Value → Step
  push_register at m none = refuse 9 at
  push_register at m (some v) = go 0 0 (record { stack = v ∷ m.stack; marks = m.marks; registers = m.registers; memory = m.memory })

  -- `$` with nothing noted: 11, or the one value
  unfoldable pub only_value : ℕ → List 𝒱.Value → Step
  only_value at [] = refuse 11 at
  only_value at (v ∷ []) = finish v
  only_value at (v ∷ w ∷ st) = refuse 11 at

  -- `$`: 10 with something noted
  unfoldable pub end_message : ℕ → Machine → List ℕ → Step
  end_message at m [] = only_value at m.stack
  end_message at m (d ∷ ds) = refuse 10 at

  -- the item at `at`, before the bytes r: `{` notes the depth, `#` pushes the empty list, `>x` pops into x, a tag wraps the top value
  unfoldable pub step : ℕ → List ℕ → Machine → Item → Step
  step at r m white_item = go 0 0 m
  step at r m (comment_item k) = go (suc k) 0 m
  step at r m (integer_item z k) = go k 1 (fresh at (integer z) m.stack m.marks m)
  step at r m (atom_item k) = go (suc k) 1 (fresh at (atom (suc at) (take k r)) m.stack m.marks m)
  step at r m (string_item k) = go (suc k) 1 (fresh at (string (suc at) (take k r)) m.stack m.marks m)
  step at r m (tag_item k) = pop at m.marks m.stack (λ v st. go (suc k) 1 (fresh at (tag (suc at) (take k r) v) st m.marks m))
  step at r m open_item = go 0 0 (record { stack = m.stack; marks = length m.stack ∷ m.marks; registers = m.registers; memory = m.memory })
  step at r m close_item = close_tuple at m m.marks
  step at r m tilde_item = pop at m.marks m.stack (λ v st. take_binary at r m st (𝒱.integer_in m.memory v))
  step at r m hash_item = go 0 1 (fresh at nil m.stack m.marks m)
  step at r m ampersand_item = pop at m.marks m.stack (λ v st. pop at m.marks st (λ l st'. cons_list at m v l st'))
  step at r m end_item = end_message at m m.marks
  step at r m (store_item x) =
      pop at m.marks m.stack (λ v st.
      go 1 0 (record { stack = st; marks = m.marks; registers = set_register x v m.registers; memory = m.memory }))
  step at r m (push_item x) = push_register at m (m.registers x)
  step at r m cut = refuse 3 (suc at + length r)
  step at r m (stray k) = refuse 4 (at + k)
  step at r m too_large = refuse 5 at

  -- 12, 13, 14: no room in rows, stack, marks after the item at `at`, before which `used` rows were made
  unfoldable pub bounded : Limits → ℕ → ℕ → Step → Step
  bounded lim at used (refuse n p) = refuse n p
  bounded lim at used (finish v) = finish v
  bounded lim at used (go k w m) =
      cond (ltb lim.rows (used + w)) (refuse 12 at)
      (cond (ltb lim.stack (length m.stack)) (refuse 13 at)
      (cond (ltb lim.marks (length m.marks)) (refuse 14 at)
      (go k w m)))

  -- what comes of a step: a refusal, what comes next, or what the end gives
  unfoldable pub follow : {A : Type 0} → Step → (ℕ → ℕ → Machine → Outcome A) → (𝒱.Value → Outcome A) → Outcome A
  follow (refuse n p) next end = refused n p
  follow (go k w m) next end = next k w m
  follow (finish v) next end = end v

  -- what a run under limits leaves: how many rows are used, the root, and what is kept of the values
  pub record Result : Type 0 where
    pub used : ℕ
    pub root : 𝒱.Value
    pub memory : 𝒱.Memory

  -- items go left to right; the message from `at` on, where `skip` bytes belong to an item already done and `used` rows are made
  unfoldable pub run_from : Limits → List ℕ → ℕ → ℕ → ℕ → Machine → Outcome Result
  run_from lim [] skip at used m = refused 3 at
  run_from lim (c ∷ r) (suc k) at used m = run_from lim r k (suc at) used m
  run_from lim (c ∷ r) zero at used m =
      follow (bounded lim at used (step at r m (lex c r)))
      (λ k w m'. run_from lim r k (suc at) (used + w) m')
      (λ v. accepted (suc at) (record { used = used; root = v; memory = m.memory }))

  -- a message under limits
  unfoldable pub run : Limits → List ℕ → Outcome Result
  run lim message = run_from lim message 0 0 0 start

  -- the same with no limit and no count of rows
  unfoldable pub run_free_from : List ℕ → ℕ → ℕ → Machine → Outcome 𝒱.Value
  run_free_from [] skip at m = refused 3 at
  run_free_from (c ∷ r) (suc k) at m = run_free_from r k (suc at) m
  run_free_from (c ∷ r) zero at m = follow (step at r m (lex c r)) (λ k w m'. run_free_from r k (suc at) m') (λ v. accepted (suc at) v)

  -- a message by its bytes alone
  unfoldable pub run_free : List ℕ → Outcome 𝒱.Value
  run_free message = run_free_from message 0 0 start
