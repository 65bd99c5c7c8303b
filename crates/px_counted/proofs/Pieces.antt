-- Parts of the code that a draft grows by: which nodes they have, and how far their runs are behind.
use Rattle.std.proofs.Common.{◌≡◌, ℕ, zero, suc, ◌+◌, ◌≤◌, ◌<◌, nat_eq, Bool, true, false, List, [], ◌∷◌, ◌++◌, length, length-append, append_assoc, append-nil, Some, slice_get, refl, sym, ap, ◌∙◌, subst, arith}
use Rattle.std.proofs.lemmas.Bool.{eqb-true}
use Rattle.px_normal.specs.declared.node.Node.{Node}
use Rattle.px_normal.specs.declared.node.Counter.{Counter}
use Rattle.px_normal.specs.First.{numbered}
use Rattle.px_counted.proofs.Counts.{one_if, hits}

-- ---- lists

pub append_cancel : {A : Type 0} (xs ys zs : List A) → xs ++ ys ≡ xs ++ zs → ys ≡ zs
append_cancel [] ys zs h = h
append_cancel (x ∷ xs) ys zs h = append_cancel xs ys zs (let t : xs ++ ys ≡ xs ++ zs = cc h in t)

pub same_rest : {A : Type 0} (all xs ys zs : List A) → all ≡ xs ++ ys → all ≡ xs ++ zs → ys ≡ zs
same_rest all xs ys zs h k = append_cancel xs ys zs (sym h ∙ k)

pub joined : {A : Type 0} (xs ys zs us vs : List A) → ys ≡ xs ++ us → zs ≡ ys ++ vs → zs ≡ xs ++ (us ++ vs)
joined xs ys zs us vs h k = k ∙ ap (λ l. l ++ vs) h ∙ append_assoc xs us vs

get_front : {A : Type 0} (xs ys : List A) (i : ℕ) (x : A) → slice_get xs i ≡ Some x → slice_get (xs ++ ys) i ≡ Some x
get_front [] ys i x h = absurd (cc h)
get_front (y ∷ xs) ys zero x h = h
get_front (y ∷ xs) ys (suc i) x h = get_front xs ys i x h

get_behind : {A : Type 0} (xs : List A) (x : A) → slice_get (xs ++ x ∷ []) (length xs) ≡ Some x
get_behind [] x = refl
get_behind (y ∷ xs) x = get_behind xs x

pub numbered_front : {A : Type 0} (xs ys : List A) (k : ℕ) (x : A) → numbered xs k ≡ Some x → numbered (xs ++ ys) k ≡ Some x
numbered_front xs ys zero x h = absurd (cc h)
numbered_front xs ys (suc i) x h = get_front xs ys i x h

pub numbered_behind : {A : Type 0} (xs : List A) (k : ℕ) (x : A) → k ≡ length xs + 1 → numbered (xs ++ x ∷ []) k ≡ Some x
numbered_behind xs zero x h = absurd (omega (arith, h))
numbered_behind xs (suc i) x h =
    let e : length xs ≡ i = omega (arith, h) in
    subst (λ j. slice_get (xs ++ x ∷ []) j ≡ Some x) e (get_behind xs x)

eq_of : (a b : ℕ) → nat_eq a b ≡ true → a ≡ b
eq_of a b h = eqb-true a b h

module _ (Q W : Type 0) (k : ℕ) (counter : Counter) where
  -- ---- whether the node is among the first

  -- 1 from the node's number on
  abbrev pub from_node : ℕ → ℕ
  from_node zero = 0
  from_node (suc n) = from_node n + hits Q W k counter (suc n)

  hit_is : (b : Bool) (n : ℕ) → nat_eq k n ≡ b → 1 ≤ one_if b → k ≡ n
  hit_is true n e h = eq_of k n e
  hit_is false n e h = absurd (omega (arith, h))

  pub hit_at : (n : ℕ) → 1 ≤ hits Q W k counter n → k ≡ n
  hit_at n h = hit_is (nat_eq k n) n refl h

  few_if : (b : Bool) → one_if b ≤ 1
  few_if true = omega (arith)
  few_if false = omega (arith)

  pub one_hit : (n : ℕ) → hits Q W k counter n ≤ 1
  one_hit n = few_if (nat_eq k n)

  none_before : (n : ℕ) → n < k → from_node n ≡ 0
  none_before zero h = refl
  none_before (suc n) h =
      let before = none_before n (omega (arith, h)) in
      let few = one_hit (suc n) in
      let never : 1 ≤ hits Q W k counter (suc n) → ⊥ = λ x. let e = hit_at (suc n) x in omega (arith, e, h) in
      or_none (hits Q W k counter (suc n)) (from_node n) before never
    where
      or_none : (x y : ℕ) → y ≡ 0 → (1 ≤ x → ⊥) → y + x ≡ 0
      or_none zero y e f = omega (arith, e)
      or_none (suc x) y e f = absurd (f (omega (arith)))

  pub from_next : (n : ℕ) → from_node (n + 1) ≡ from_node n + hits Q W k counter (n + 1)
  from_next n = let e : n + 1 ≡ suc n = omega (arith) in subst (λ m. from_node m ≡ from_node n + hits Q W k counter m) (sym e) refl

  -- ---- nodes

  -- where the node is among these, it has this counter
  abbrev pub IsKnown : List Node → Type 0
  IsKnown nodes = (node : Node) → numbered nodes k ≡ Some node → node.counter ≡ Some counter

  pub known_front : (xs ys zs : List Node) → zs ≡ xs ++ ys → IsKnown zs → IsKnown xs
  known_front xs ys zs e h node at = h node (subst (λ (l : List Node). numbered l k ≡ Some node) (sym e) (numbered_front xs ys k node at))

  -- The nodes grow, and if the node is among the new ones its counter's number is given so often.
  pub record Grows (given : ℕ) (old new : List Node) : Type 0 where
    pub more : List Node
    pub nodes_are : new ≡ old ++ more
    pub few : IsKnown new → from_node (length new) ≤ from_node (length old) + given

  pub grows_none : (given : ℕ) (nodes : List Node) → Grows given nodes nodes
  grows_none given nodes = record { more = []; nodes_are = sym (append-nil nodes); few = λ h. omega (arith) }

  pub grows_then : (m n p : ℕ) (xs ys zs : List Node) → p ≡ m + n → Grows m xs ys → Grows n ys zs → Grows p xs zs
  grows_then m n p xs ys zs e g h = record {
    more = g.more ++ h.more;
    nodes_are = h.nodes_are ∙ ap (λ l. l ++ h.more) g.nodes_are ∙ append_assoc xs g.more h.more;
    few = λ known. let a = g.few (known_front ys h.more zs h.nodes_are known) in let b = h.few known in omega (arith, a, b, e);
  }

  pub grows_more : (m n : ℕ) (xs ys : List Node) → m ≤ n → Grows m xs ys → Grows n xs ys
  grows_more m n xs ys e g = record { more = g.more; nodes_are = g.nodes_are; few = λ known. let a = g.few known in omega (arith, a, e) }

  length_next : (xs : List Node) (x : Node) → length (xs ++ x ∷ []) ≡ length xs + 1
  length_next xs x = length-append xs (x ∷ [])

  pub from_one : (xs : List Node) (x : Node) → from_node (length (xs ++ x ∷ [])) ≡ from_node (length xs) + hits Q W k counter (length xs + 1)
  from_one xs x = ap from_node (length_next xs x) ∙ from_next (length xs)

  -- a new node whose counter is this one has the counter
  pub hit_counter : (xs : List Node) (x : Node) (y : Counter) → x.counter ≡ Some y → IsKnown (xs ++ x ∷ []) → 1 ≤ hits Q W k counter (length xs + 1) → counter ≡ y
  hit_counter xs x y e known h =
      let c : x.counter ≡ Some counter = known x (numbered_behind xs k x (hit_at (length xs + 1) h)) in
      let s : Some y ≡ Some counter = sym e ∙ c in
      let t : counter ≡ y = cc s in t

  next_few : (f o g h : ℕ) → f ≤ o + g → h ≤ 1 → (1 ≤ h → (f ≡ 0) × (1 ≤ g)) → f + h ≤ o + g
  next_few f o g zero e l k' = omega (arith, e)
  next_few f o g (suc h) e l k' = let x = k' (omega (arith)) in let a = x.0 in let b = x.1 in omega (arith, a, b, l)

  -- one more node, of a counter whose number is given here
  pub grows_one : (given : ℕ) (xs ys : List Node) (x : Node) (y : Counter) → x.counter ≡ Some y → (counter ≡ y → 1 ≤ given) → Grows given xs ys → Grows given xs (ys ++ x ∷ [])
  grows_one given xs ys x y e own g = record {
    more = g.more ++ x ∷ [];
    nodes_are = ap (λ l. l ++ x ∷ []) g.nodes_are ∙ append_assoc xs g.more (x ∷ []);
    few = λ known.
        let a = g.few (known_front ys (x ∷ []) (ys ++ x ∷ []) refl known) in
        let s = from_one ys x in
        let m = next_few (from_node (length ys)) (from_node (length xs)) given (hits Q W k counter (length ys + 1)) a (one_hit (length ys + 1))
        (λ h. (none_before (length ys) (let p = hit_at (length ys + 1) h in omega (arith, p)), own (hit_counter ys x y e known h))) in
        subst (λ f. f ≤ from_node (length xs) + given) (sym s) m;
  }

  pub from_more : (m d : ℕ) → from_node m ≤ from_node (m + d)
  from_more m zero = let e : m + 0 ≡ m = omega (arith) in subst (λ x. from_node m ≤ from_node x) (sym e) (omega (arith))
  from_more m (suc d) =
      let e : m + suc d ≡ suc (m + d) = omega (arith) in
      let a = from_more m d in
      subst (λ x. from_node m ≤ from_node x) (sym e) (omega (arith, a))

  pub grows_up : (given : ℕ) (xs ys : List Node) → Grows given xs ys → from_node (length xs) ≤ from_node (length ys)
  grows_up given xs ys g = subst (λ x. from_node (length xs) ≤ from_node x) (sym (ap length g.nodes_are ∙ length-append xs g.more)) (from_more (length xs) (length g.more))
