-- What is so of each statement of the code, where it is placed, is so of each statement of the blocks, by the method of the block.
use Rattle.std.proofs.Common.{◌≡◌, ℕ, zero, suc, Bool, List, Option, Some, slice_get, refl, sym, ap, ◌∙◌, subst}
use Rattle.std.specs.List.{AllByRecursion}
use Rattle.px_normal.specs.declared.method.Method.{Method}
use Rattle.px_normal.specs.declared.method.Tree.{Tree}
use Rattle.px_normal.specs.declared.code.Code.{Code}
use Rattle.px_blocks.specs.declared.side.Side.{Side}
use Rattle.px_blocks.specs.declared.block.Block.{Block}
use Rattle.px_blocks.specs.declared.block.Blocks.{Blocks}
use Rattle.px_blocks.specs.declared.block.Deed.{Deed}
use Rattle.px_blocks.specs.declared.block.Deed.TheVariants as deed
use Rattle.px_blocks.specs.declared.block.Exit.{Exit}
use Rattle.px_blocks.specs.declared.block.Send.{Send}
use Rattle.px_blocks.specs.declared.block.Statement.{Statement}
use Rattle.px_blocks.specs.declared.placed.Placed.{Placed}
use Rattle.px_blocks.specs.Rules.{Cutting, cutting, side_of, send_of as send_at, statement_of, Place, Amid, Anew, From, amid, anew, Joins, stays as joins_stays, begins as joins_begins, In, nothing, stays as in_stays, asks as in_asks, calls as in_calls, branches as in_branches, turns as in_turns, AreMethods, none, one, IsCut}
use Rattle.px_blocks.specs.Has.{Has, does as has_do, chooses as has_if, tests as has_test, in_yes, in_no, in_first, in_body, behind, HasStatement}
use Rattle.px_ends.specs.Sends.{PlacedDeed, CutIsPlacedByMethod}

-- one number on another, so that it computes at the next method
abbrev plus : ℕ → ℕ → ℕ
plus zero m = m
plus (suc i) m = plus i (suc m)

plus_suc : (i m : ℕ) → plus i (suc m) ≡ suc (plus i m)
plus_suc zero m = refl
plus_suc (suc i) m = plus_suc i (suc m)

plus_none : (i : ℕ) → plus i 0 ≡ i
plus_none zero = refl
plus_none (suc i) = plus_suc i 0 ∙ ap suc (plus_none i)

plus_one : (i : ℕ) → plus i 1 ≡ suc i
plus_one i = plus_suc i 0 ∙ ap suc (plus_none i)

module _ (P : ℕ → Side → Option Send → Deed → Type 0) where
  abbrev pub StatementHas : ℕ → Side → Statement → Type 0
  StatementHas m side s = P m side s.send s.deed

  abbrev pub BlockHas : Block → Type 0
  BlockHas b = AllByRecursion (StatementHas b.method b.side) b.statements

  abbrev pub AllHas : List Block → Type 0
  AllHas blocks = AllByRecursion BlockHas blocks

  module _ (c : Cutting) (m : ℕ) where
    abbrev NodeHas : ℕ → Deed → Type 0
    NodeHas node d = P m (side_of c.placed.sides node) (send_at c.placed.sends node) d

    abbrev PlaceHas : Place → Type 0
    PlaceHas (Amid made side over rest exit later) = AllByRecursion (StatementHas m side) rest × AllHas later
    PlaceHas (Anew made to later) = AllHas later

    from_has : (p : Place) (made to : ℕ) (later : List Block) → From p made to later → AllHas later → PlaceHas p
    from_has p made to later (amid e) l = (tt, l)
    from_has p made to later anew l = l

    joins_has : (node : ℕ) (d : Deed) (p : Place) (made : ℕ) (side : Side) (over : Bool) (rest : List Statement) (exit : Exit) (later : List Block) → Joins c m (statement_of c.placed node d) p (Amid made side over rest exit later) → NodeHas node d → PlaceHas (Amid made side over rest exit later) → PlaceHas p
    joins_has node d p made side over rest exit later (joins_stays e) h l = ((subst (λ z. P m z (send_at c.placed.sends node) d) (sym e) h, l.0), l.1)
    joins_has node d p made side over rest exit later (joins_begins away f) h l = from_has p _ _ _ f ((h, l.0), l.1)

    in_has : (p q : Place) (ts : List Tree) → In c m p ts q → ((node : ℕ) (d : Deed) → Has ts node d → NodeHas node d) → PlaceHas q → PlaceHas p
    in_has p q ts nothing up l = l
    in_has p q ts (in_stays {node = node} {word = word} no_call no_operation j d) up l = joins_has node (deed.Does word) p _ _ _ _ _ _ j (up node (deed.Does word) has_do) (in_has _ q _ d (λ node d has. up node d (behind has)) l)
    in_has p q ts (in_asks {node = node} {word = word} is_op e j d) up l = joins_has node (deed.Does word) p _ _ _ _ _ _ j (up node (deed.Does word) has_do) (tt, in_has _ q _ d (λ node d has. up node d (behind has)) l)
    in_has p q ts (in_calls {node = node} j d) up l = joins_has node _ p _ _ _ _ _ _ j (up node _ has_do) (tt, in_has _ q _ d (λ node d has. up node d (behind has)) l)
    in_has p q ts (in_branches {py = py} {pn = pn} {node = node} {a = a} {ys = ys} {ns = ns} j dy fy dn fn d) up l =
        let ln = in_has _ pn _ dn (λ at d has. up at d (in_no node a ys has)) (from_has pn _ _ _ fn (in_has _ q _ d (λ node d has. up node d (behind has)) l)) in
        let ly = in_has _ py _ dy (λ at d has. up at d (in_yes node a ns has)) (from_has py _ _ _ fy ln) in
        joins_has node (deed.Chooses a) p _ _ _ _ _ _ j (up node (deed.Chooses a) (has_if ys ns)) (tt, ly)
    in_has p q ts (in_turns {pf = pf} {pb = pb} {node = node} {a = a} {first = first} {body = body} f df j db fb d) up l =
        let lb = in_has _ pb _ db (λ at d has. up at d (in_body first node a has)) (from_has pb _ _ _ fb (in_has _ q _ d (λ node d has. up node d (behind has)) l)) in
        from_has p _ _ _ f (in_has _ pf _ df (λ at d has. up at d (in_first node a body has)) (joins_has node (deed.Tests a) pf _ _ _ _ _ _ j (up node (deed.Tests a) (has_test first body)) (tt, lb)))

  methods_have : (c : Cutting) (m made : ℕ) (methods : List Method) (firsts : List ℕ) (later : List Block) → AreMethods c m made methods firsts later → ((i k : ℕ) (method : Method) → slice_get methods i ≡ Some method → k ≡ plus i m → (node : ℕ) (d : Deed) → Has method.body node d → NodeHas c k node d) → AllHas later
  methods_have c m made methods firsts later none up = tt
  methods_have c m made methods firsts later (one {q = q} {method = method} d f rest) up =
      in_has c m _ q _ d (up zero m method refl refl) (from_has c m q _ _ _ f (methods_have c (suc m) _ _ _ _ rest (λ i k mt e s. up (suc i) k mt e s)))

  pub cut_has : (code : Code) (placed : Placed) (blocks : Blocks) → IsCut code placed blocks → ((m node : ℕ) (d : Deed) → HasStatement code m node d → P m (side_of placed.sides node) (send_at placed.sends node) d) → AllHas blocks.blocks
  cut_has code placed blocks cut has = methods_have (cutting placed blocks) 1 0 code.methods blocks.firsts blocks.blocks cut (λ i k method e s node d h. subst (λ n. P n (side_of placed.sides node) (send_at placed.sends node) d) (sym (s ∙ plus_one i)) (has (suc i) node d (record { method = method; is = e; has = h })))

pub cut_is_placed_by_method : CutIsPlacedByMethod
cut_is_placed_by_method plan placed leads cut put = cut_has (λ m side send d. PlacedDeed plan (leads m) side send d) plan.code placed plan.blocks cut put
