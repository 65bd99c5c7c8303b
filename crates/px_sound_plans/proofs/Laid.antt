-- What is so of the blocks into which code is cut: they lead to blocks of their methods, a call ends its block, and each statement is one of the code.
use Rattle.std.proofs.Common.{◌≡◌, ℕ, zero, suc, Bool, true, false, List, [], ◌∷◌, drop, Option, Some, None, slice_get, refl, sym, ap, ◌∙◌, subst}
use Rattle.std.specs.List.{AllByRecursion}
use Rattle.px_normal.specs.declared.word.Word.{Word}
use Rattle.px_normal.specs.declared.word.Word.TheVariants as w
use Rattle.px_normal.specs.declared.method.Method.{Method}
use Rattle.px_normal.specs.declared.method.Tree.{Tree}
use Rattle.px_normal.specs.First.{numbered}
use Rattle.px_blocks.specs.declared.side.Side.{Side}
use Rattle.px_blocks.specs.declared.block.Block.{Block}
use Rattle.px_blocks.specs.declared.block.Deed.{Deed}
use Rattle.px_blocks.specs.declared.block.Deed.TheVariants as deed
use Rattle.px_blocks.specs.declared.block.Exit.{Exit}
use Rattle.px_blocks.specs.declared.block.Exit.TheVariants.{Branch}
use Rattle.px_blocks.specs.declared.block.Statement.{Statement}
use Rattle.px_blocks.specs.Machine.{block_at, onward, chosen, entry_of}
use Rattle.px_blocks.specs.Rules.{is_call, is_operation, Cutting, side_of, statement_of, block_of, exit_to, exit_if, first_in, Place, Amid, Anew, From, amid, anew, Joins, stays as joins_stays, begins as joins_begins, In, nothing, stays as in_stays, asks as in_asks, calls as in_calls, branches as in_branches, turns as in_turns, AreMethods, none, one}
use Rattle.px_blocks.specs.Has.{Has, does as has_do, chooses as has_if, tests as has_test, in_yes, in_no, in_first, in_body, behind}
use Rattle.px_blocks.proofs.Places.{at_drop, Sits, from_sits, joins_sits, sits_after, sits_on}
use Rattle.px_blocks.proofs.Methods.{method_lies, no_first}

-- one number on another, so that it computes at the next method
abbrev plus : ℕ → ℕ → ℕ
plus zero m = m
plus (suc i) m = plus i (suc m)

plus_suc : (i m : ℕ) → plus i (suc m) ≡ suc (plus i m)
plus_suc zero m = refl
plus_suc (suc i) m = plus_suc i (suc m)

plus_none : (i : ℕ) → plus i 0 ≡ i
plus_none zero = refl
plus_none (suc i) = plus_suc i 0 ∙ ap suc (plus_none i)

pub plus_one : (i : ℕ) → plus i 1 ≡ suc i
plus_one i = plus_suc i 0 ∙ ap suc (plus_none i)

module _ (blocks : List Block) (c : Cutting) (S : ℕ → ℕ → Deed → Type 0) where
  -- the block of the number is of the method
  abbrev pub GoodTo : ℕ → ℕ → Type 0
  GoodTo m n = (b : Block) → block_at blocks n ≡ Some b → b.method ≡ m

  pub record ExitOk (m : ℕ) (e : Exit) : Type 0 where
    pub on : GoodTo m (onward e)
    pub choice : (b : Bool) → GoodTo m (chosen e b)

  -- a call is the last statement, and leads to the method
  abbrev pub CallFits : Exit → List Statement → Deed → Type 0
  CallFits e rest (deed.Does (w.Call to of called args)) = (rest ≡ []) × (entry_of e ≡ first_in c.firsts called)
  CallFits e rest _ = Unit {0}

  abbrev pub StandOk : ℕ → Exit → List Statement → Type 0
  StandOk m e [] = Unit {0}
  StandOk m e (s ∷ rest) = (S m s.node s.deed × CallFits e rest s.deed) × StandOk m e rest

  pub record BlockOk (b : Block) : Type 0 where
    pub real : b.method ≡ 0 → ⊥
    pub exit_ok : ExitOk b.method b.exit
    pub stand : StandOk b.method b.exit b.statements

  abbrev pub AllOk : List Block → Type 0
  AllOk later = AllByRecursion BlockOk later

  pub to_none : (m : ℕ) → GoodTo m 0
  to_none m b e = cc

  same_block : (a b : Block) → Some a ≡ Some b → a ≡ b
  same_block a b e = cc

  begun_good : (m made : ℕ) (b : Block) (later : List Block) → b ∷ later ≡ drop made blocks → b.method ≡ m → GoodTo m (suc made)
  begun_good m made b later sits is x e = let t = at_drop blocks later made b sits in ap (λ (z : Block). z.method) (same_block x b (sym e ∙ t.0)) ∙ is

  exit_to_ok : (m to : ℕ) → GoodTo m to → ExitOk m (exit_to to)
  exit_to_ok m zero g = record { on = to_none m; choice = λ b. to_none m }
  exit_to_ok m (suc n) g = record { on = g; choice = λ b. g }

  exit_if_ok : (m : ℕ) (over : Bool) (to : ℕ) → GoodTo m to → ExitOk m (exit_if over to)
  exit_if_ok m true to g = record { on = to_none m; choice = λ b. to_none m }
  exit_if_ok m false to g = exit_to_ok m to g

  branch_ok : (m y n : ℕ) → GoodTo m y → GoodTo m n → ExitOk m (Branch y n)
  branch_ok m y n gy gn = record { on = gn; choice = pick }
    where
      pick : (b : Bool) → GoodTo m (chosen (Branch y n) b)
      pick true = gy
      pick false = gn

  no_call_fits : (e : Exit) (rest : List Statement) (word : Word) → is_call word ≡ false → CallFits e rest (deed.Does word)
  no_call_fits e rest (w.Call to of called args) h = cc
  no_call_fits e rest (w.Set to a) h = tt
  no_call_fits e rest (w.Op o to a b) h = tt
  no_call_fits e rest (w.Get to of class field) h = tt
  no_call_fits e rest (w.Put of class field a) h = tt
  no_call_fits e rest (w.Load to of i) h = tt
  no_call_fits e rest (w.Store of i a) h = tt
  no_call_fits e rest (w.Len to of) h = tt
  no_call_fits e rest (w.New to class site) h = tt
  no_call_fits e rest (w.Array to element n site) h = tt
  no_call_fits e rest (w.Query to number site params) h = tt
  no_call_fits e rest (w.Update to number params) h = tt
  no_call_fits e rest (w.Next to of) h = tt
  no_call_fits e rest (w.Long to of column) h = tt
  no_call_fits e rest (w.Text to of column) h = tt
  no_call_fits e rest (w.Print a) h = tt
  no_call_fits e rest (w.Return a) h = tt

  asks_no_call : (word : Word) → is_operation word ≡ true → is_call word ≡ false
  asks_no_call (w.Call to of called args) h = cc
  asks_no_call _ h = refl

  module _ (m : ℕ) (real : m ≡ 0 → ⊥) where
    abbrev PlaceOk : Place → Type 0
    PlaceOk (Amid made side over rest exit later) = ExitOk m exit × StandOk m exit rest × AllOk later
    PlaceOk (Anew made to later) = GoodTo m to × AllOk later

    -- where control comes to
    abbrev Target : Place → Type 0
    Target (Amid made side over rest exit later) = Unit {0}
    Target (Anew made to later) = GoodTo m to

    from_ok : (p : Place) (made to : ℕ) (later : List Block) → From p made to later → GoodTo m to → AllOk later → PlaceOk p
    from_ok p made to later (amid {over = over} e) g l = (subst (ExitOk m) (sym e) (exit_if_ok m over to g), tt, l)
    from_ok p made to later anew g l = (g, l)

    from_target : (p : Place) (made to : ℕ) (later : List Block) → From p made to later → GoodTo m to → Target p
    from_target p made to later (amid e) g = tt
    from_target p made to later anew g = g

    joins_ok : (node : ℕ) (d : Deed) (p : Place) (made : ℕ) (side : Side) (over : Bool) (rest : List Statement) (exit : Exit) (later : List Block) → Joins c m (statement_of c.placed node d) p (Amid made side over rest exit later) → Sits blocks m p → S m node d × CallFits exit rest d → PlaceOk (Amid made side over rest exit later) → PlaceOk p
    joins_ok node d p made side over rest exit later (joins_stays e) sits h i = (i.0, (h, i.1), i.2)
    joins_ok node d p made side over rest exit later (joins_begins {made = made'} away f) sits h i =
        let b : Block = block_of m (side_of c.placed.sides node) (statement_of c.placed node d ∷ rest) exit in
        from_ok p made' (suc made') (b ∷ later) f (begun_good m made' b later (from_sits blocks c m p made' (suc made') (b ∷ later) f sits) refl) (record { real = real; exit_ok = i.0; stand = (h, i.1) }, i.2)

    joins_target : (s : Statement) (p q : Place) → Joins c m s p q → Sits blocks m p → Target p
    joins_target s p q (joins_stays e) sits = tt
    joins_target s p q (joins_begins {made = made'} {rest = rest} {exit = exit} {later = later} away f) sits =
        let b : Block = block_of m (side_of c.placed.sides s.node) (s ∷ rest) exit in
        from_target p made' (suc made') (b ∷ later) f (begun_good m made' b later (from_sits blocks c m p made' (suc made') (b ∷ later) f sits) refl)

    in_target : (p q : Place) (ts : List Tree) → In c m p ts q → Sits blocks m p → Target q → Target p
    in_target p q ts nothing i g = g
    in_target p q ts (in_stays x y j rest) i g = joins_target _ p _ j i
    in_target p q ts (in_asks x y j rest) i g = joins_target _ p _ j i
    in_target p q ts (in_calls j rest) i g = joins_target _ p _ j i
    in_target p q ts (in_branches j yes' fy no' fn rest) i g = joins_target _ p _ j i
    in_target p q ts (in_turns {pf = pf} f first j body fb rest) i g =
        let i0 = from_sits blocks c m p _ _ _ f i in
        from_target p _ _ _ f (in_target _ pf _ first i0 (joins_target _ pf _ j (sits_on blocks c m _ pf _ first i0)))

    in_ok : (p q : Place) (ts : List Tree) → In c m p ts q → Sits blocks m p → ((node : ℕ) (d : Deed) → Has ts node d → S m node d) → PlaceOk q → PlaceOk p
    in_ok p q ts nothing i up l = l
    in_ok p q ts (in_stays {node = node} {rest = rest} {exit = exit} {word = word} no_call no_operation j d) i up l = joins_ok node (deed.Does word) p _ _ _ _ _ _ j i (up node (deed.Does word) has_do, no_call_fits exit rest word no_call) (in_ok _ q _ d (sits_after blocks c m _ p _ j i) (λ node d has. up node d (behind has)) l)
    in_ok p q ts (in_asks {to = to} {node = node} {exit = exit} {word = word} is_op e j d) i up l =
        let r = in_ok _ q _ d (joins_sits blocks c m _ p _ j i).2.later_is (λ node d has. up node d (behind has)) l in
        joins_ok node (deed.Does word) p _ _ _ _ _ _ j i (up node (deed.Does word) has_do, no_call_fits exit [] word (asks_no_call word is_op)) (subst (ExitOk m) (sym e) (exit_to_ok m to r.0), tt, r.1)
    in_ok p q ts (in_calls {back = back} {node = node} {method = method} {to = to} {of = of} {args = args} j d) i up l =
        let r = in_ok _ q _ d (joins_sits blocks c m _ p _ j i).2.later_is (λ node d has. up node d (behind has)) l in
        joins_ok node (deed.Does (w.Call to of method args)) p _ _ _ _ _ _ j i (up node _ has_do, (refl, refl)) (record { on = r.0; choice = λ b. r.0 }, tt, r.1)
    in_ok p q ts (in_branches {py = py} {pn = pn} {yes' = yes'} {no' = no'} {node = node} {a = a} {ys = ys} {ns = ns} j dy fy dn fn d) i up l =
        let i0 = (joins_sits blocks c m _ p _ j i).2.later_is in
        let iy = from_sits blocks c m py _ _ _ fy (sits_on blocks c m _ py _ dy i0) in
        let j2 = from_sits blocks c m pn _ _ _ fn (sits_on blocks c m _ pn _ dn iy) in
        let r = in_ok _ q _ d j2 (λ node d has. up node d (behind has)) l in
        let n = in_ok _ pn _ dn iy (λ at d has. up at d (in_no node a ys has)) (from_ok pn _ _ _ fn r.0 r.1) in
        let y = in_ok _ py _ dy i0 (λ at d has. up at d (in_yes node a ns has)) (from_ok py _ _ _ fy r.0 n.1) in
        joins_ok node (deed.Chooses a) p _ _ _ _ _ _ j i (up node (deed.Chooses a) (has_if ys ns), tt) (branch_ok m yes' no' y.0 n.0, tt, y.1)
    in_ok p q ts (in_turns {pf = pf} {pb = pb} {yes' = yes'} {after = after} {node = node} {a = a} {first = first} {body = body} f df j db fb d) i up l =
        let i0 = from_sits blocks c m p _ _ _ f i in
        let at_test = sits_on blocks c m _ pf _ df i0 in
        let i1 = (joins_sits blocks c m _ pf _ j at_test).2.later_is in
        let i2 = from_sits blocks c m pb _ _ _ fb (sits_on blocks c m _ pb _ db i1) in
        let start = in_target _ pf _ df i0 (joins_target _ pf _ j at_test) in
        let r = in_ok _ q _ d i2 (λ node d has. up node d (behind has)) l in
        let b = in_ok _ pb _ db i1 (λ at d has. up at d (in_body first node a has)) (from_ok pb _ _ _ fb start r.1) in
        let t = joins_ok node (deed.Tests a) pf _ _ _ _ _ _ j at_test (up node (deed.Tests a) (has_test first body), tt) (branch_ok m yes' after b.0 r.0, tt, b.1) in
        let s = in_ok _ pf _ df i0 (λ at d has. up at d (in_first node a body has)) t in
        from_ok p _ _ _ f start s.1

  real_suc : (k : ℕ) → suc k ≡ 0 → ⊥
  real_suc k e = cc

  methods_ok : (k m made : ℕ) (methods : List Method) (firsts : List ℕ) (later : List Block) → m ≡ suc k → AreMethods c m made methods firsts later → later ≡ drop made blocks → ((i n : ℕ) (method : Method) → slice_get methods i ≡ Some method → n ≡ plus i m → (node : ℕ) (d : Deed) → Has method.body node d → S n node d) → AllOk later
  methods_ok k m made methods firsts later is none sits up = tt
  methods_ok k m made methods firsts later is (one {made1 = made1} {q = q} {method = method} {later1 = later1} d f rest) sits up =
      let real : m ≡ 0 → ⊥ = λ e. real_suc k (sym is ∙ e) in
      let s1 = from_sits blocks c m q _ _ _ f (sits_on blocks c m _ q _ d sits) in
      let more = methods_ok (suc k) (suc m) made1 _ _ later1 (ap suc is) rest s1 (λ i n mt e s. up (suc i) n mt e s) in
      (in_ok m real _ q _ d sits (up zero m method refl refl) (from_ok m real q _ _ _ f (to_none m) more)).1

  module _ (methods : List Method) (cut : AreMethods c 1 0 methods c.firsts blocks) where
    pub all_ok : ((m node : ℕ) (method : Method) (d : Deed) → numbered methods m ≡ Some method → Has method.body node d → S m node d) → AllOk blocks
    all_ok up = methods_ok 0 1 0 methods c.firsts blocks refl cut refl (λ i n method e s node d has. subst (λ k. S k node d) (sym (s ∙ plus_one i)) (up (suc i) node method d e has))

    -- the first block of a method is of the method
    pub first_good : (m : ℕ) → GoodTo m (first_in c.firsts m)
    first_good m = by_lookup (numbered methods m) refl
      where
        real_of : (method : Method) → numbered methods m ≡ Some method → m ≡ 0 → ⊥
        real_of method e z = let x : numbered methods 0 ≡ Some method = ap (numbered methods) (sym z) ∙ e in cc

        by_lookup : (o : Option Method) → numbered methods m ≡ o → GoodTo m (first_in c.firsts m)
        by_lookup None e = subst (GoodTo m) (sym (no_first blocks c methods cut m e)) (to_none m)
        by_lookup (Some method) e =
            let l = method_lies blocks c methods cut m method e in
            in_target m (real_of method e) (Anew l.made (first_in c.firsts m) l.later) l.out method.body l.body l.sits (from_target m (real_of method e) l.out l.made1 0 l.later1 l.ends (to_none m))
