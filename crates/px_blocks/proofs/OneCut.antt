-- The rules leave one way to cut code: that of the cutter.
use Rattle.std.proofs.Common.{◌≡◌, ℕ, suc, Bool, true, false, List, [], ◌∷◌, refl, sym, ap, subst, ◌∙◌}
use Rattle.px_blocks.specs.declared.side.Side.{Side}
use Rattle.px_normal.specs.declared.word.Word.{Word}
use Rattle.px_normal.specs.declared.word.Word.TheVariants as w
use Rattle.px_normal.specs.declared.method.Method.{Method}
use Rattle.px_normal.specs.declared.method.Tree.{Tree}
use Rattle.px_normal.specs.declared.method.Tree.TheVariants.{Do, If, Loop}
use Rattle.px_normal.specs.declared.code.Code.{Code}
use Rattle.px_blocks.specs.declared.block.Deed.TheVariants as deed
use Rattle.px_blocks.specs.declared.block.Statement.{Statement}
use Rattle.px_blocks.specs.declared.block.Block.{Block}
use Rattle.px_blocks.specs.declared.block.Blocks.{Blocks}
use Rattle.px_blocks.specs.declared.block.Exit.{Exit}
use Rattle.px_blocks.specs.declared.block.Exit.TheVariants.{Branch, Call}
use Rattle.px_normal.specs.Words.{is_return}
use Rattle.px_blocks.specs.Rules.{Placed, Cutting, Place, Amid, Anew, exit_to, exit_if, From, amid, anew, IsElsewhere, block_of, statement_of, side_of, is_return_deed, first_in, Joins, stays as joins_stays, begins, In, nothing, stays as in_stays, asks as in_asks, calls as in_calls, branches as in_branches, turns as in_turns, AreMethods, none, one, cutting, IsCut}
use Rattle.px_blocks.specs.Cutter.{same_side, Shape, Open, Closed, Left, left_open, left_closed, made_in, made_if, made_after, joined, left_if, left_before, Cut, after_all, back_all, closing, Plain, last_cut, word_cut, if_cut, loop_cut, cut_of, cuts_of, body_shape, first_block, firsts_from, blocks_from, cut}
use Rattle.px_blocks.specs.Law.{CutIsOne}
use Rattle.px_blocks.proofs.Cutting.{cut_do, cut_if, cut_loop, same_true, same_is, kind_plain, kind_operation, body_first}

abbrev shape_of : Place → Shape
shape_of (Amid made side over rest exit later) = Open made side over
shape_of (Anew made to later) = Closed made

abbrev left_of : Place → Left
left_of (Amid made side over rest exit later) = left_open rest exit later
left_of (Anew made to later) = left_closed to later

module _ (c : Cutting) (m : ℕ) where
  -- ---- one statement

  abbrev side_at : Statement → Side
  side_at s = side_of c.placed.sides s.node

  record FromAs (p : Place) (made to : ℕ) (later : List Block) : Type 0 where
    made_is : made ≡ made_in (shape_of p)
    left_is : left_of p ≡ closing (shape_of p) to later

  from_as : (p : Place) (made to : ℕ) (later : List Block) → From p made to later → FromAs p made to later
  from_as p made to later (amid {over = over} e) = record { made_is = refl; left_is = ap (λ x. left_open [] x later) e }
  from_as p made to later anew = record { made_is = refl; left_is = refl }

  record JoinsAs (s : Statement) (p q : Place) : Type 0 where
    shape_is : shape_of q ≡ joined (side_at s) (is_return_deed s.deed) (shape_of p)
    left_is : left_of p ≡ left_before m (side_at s) s (shape_of p) (left_of q)

  away_false : (here side : Side) (b : Bool) → same_side here side ≡ b → (here ≡ side → ⊥) → b ≡ false
  away_false here side true e away = absurd (away (same_true here side e))
  away_false here side false e away = refl

  begins_as : (s : Statement) (p : Place) (made : ℕ) (rest : List Statement) (exit : Exit) (later : List Block) → IsElsewhere (side_at s) p → FromAs p made (suc made) (block_of m (side_at s) (s ∷ rest) exit ∷ later) → JoinsAs s p (Amid (suc made) (side_at s) (is_return_deed s.deed) rest exit later)
  begins_as s (Amid made' here over rest' exit' later') made rest exit later away f =
      let e = away_false here (side_at s) (same_side here (side_at s)) refl away in
      record {
        shape_is = ap (λ k. Open (suc k) (side_at s) (is_return_deed s.deed)) f.made_is ∙ sym (ap (λ b. Open (made_if b made') (side_at s) (is_return_deed s.deed)) e);
        left_is = f.left_is ∙ ap (λ k. left_open [] (exit_if over (suc k)) (block_of m (side_at s) (s ∷ rest) exit ∷ later)) f.made_is ∙ sym (ap (λ b. left_if b m made' (side_at s) over s (left_open rest exit later)) e);
      }
  begins_as s (Anew made' to later') made rest exit later away f =
      record { shape_is = ap (λ k. Open (suc k) (side_at s) (is_return_deed s.deed)) f.made_is; left_is = f.left_is ∙ ap (λ k. left_closed (suc k) (block_of m (side_at s) (s ∷ rest) exit ∷ later)) f.made_is }

  joins_as : (s : Statement) (p q : Place) → Joins c m s p q → JoinsAs s p q
  joins_as s p q (joins_stays {made = made} {side = side} {over = over} {rest = rest} {exit = exit} {later = later} e) =
      let b = same_is side (side_at s) e in
      record {
        shape_is = ap (λ x. Open made x (is_return_deed s.deed)) e ∙ sym (ap (λ b. Open (made_if b made) (side_at s) (is_return_deed s.deed)) b);
        left_is = sym (ap (λ b. left_if b m made (side_at s) over s (left_open rest exit later)) b);
      }
  joins_as s p q (begins {made = made} {rest = rest} {exit = exit} {later = later} away f) = begins_as s p made rest exit later away (from_as p made (suc made) _ f)

  -- ---- trees

  abbrev backs : List Tree → Shape → Left → Left
  backs ts p l = back_all (cuts_of c.placed ts) c.firsts m p l

  abbrev afters : List Tree → Shape → Shape
  afters ts p = after_all (cuts_of c.placed ts) p

  record Lie (p : Place) (ts : List Tree) (q : Place) : Type 0 where
    shape_is : shape_of q ≡ afters ts (shape_of p)
    left_is : left_of p ≡ backs ts (shape_of p) (left_of q)

  -- with the cut of the first tree
  record LieBy (x : Cut) (p : Place) (ts : List Tree) (q : Place) : Type 0 where
    shape_is : shape_of q ≡ afters ts (x.after (shape_of p))
    left_is : left_of p ≡ x.back c.firsts m (shape_of p) (backs ts (x.after (shape_of p)) (left_of q))

  lie_by : (t : Tree) (x : Cut) (p : Place) (ts : List Tree) (q : Place) → cut_of c.placed t ≡ x → LieBy x p ts q → Lie p (t ∷ ts) q
  lie_by t x p ts q e l = let k = subst (λ x. LieBy x p ts q) (sym e) l in record { shape_is = k.shape_is; left_is = k.left_is }

  -- a statement at the end of its block, before what comes next
  last_as : (s : Statement) (to_exit : List ℕ → ℕ → Exit) (p : Place) (made to : ℕ) (side : Side) (over : Bool) (exit : Exit) (later : List Block) (ts : List Tree) (q : Place) →
      JoinsAs s p (Amid made side over [] exit later) → exit ≡ to_exit c.firsts to → Lie (Anew made to later) ts q → LieBy (last_cut (side_at s) s to_exit) p ts q
  last_as s to_exit p made to side over exit later ts q j e l =
      let made0 = made_after (side_at s) (shape_of p) in
      let k : made ≡ made0 = ap made_in j.shape_is in
      let rest : left_closed to later ≡ backs ts (Closed made0) (left_of q) = l.left_is ∙ ap (λ n. backs ts (Closed n) (left_of q)) k in
      record {
        shape_is = l.shape_is ∙ ap (λ n. afters ts (Closed n)) k;
        left_is = j.left_is ∙ ap (λ x. left_before m (side_at s) s (shape_of p) (left_open [] x later)) e
            ∙ ap (λ (r : Left). left_before m (side_at s) s (shape_of p) (left_open [] (to_exit c.firsts r.to) r.later)) rest;
      }

  plain_as : (node : ℕ) (word : Word) (p : Place) (made : ℕ) (side : Side) (over : Bool) (rest : List Statement) (exit : Exit) (later : List Block) (ts : List Tree) (q : Place) →
      JoinsAs (statement_of c.placed node (deed.Does word)) p (Amid made side over rest exit later) → Lie (Amid made side over rest exit later) ts q → LieBy (word_cut (side_of c.placed.sides node) (statement_of c.placed node (deed.Does word)) (is_return word) Plain) p ts q
  plain_as node word p made side over rest exit later ts q j l = record {
    shape_is = l.shape_is ∙ ap (afters ts) j.shape_is;
    left_is = j.left_is ∙ ap (left_before m (side_of c.placed.sides node) (statement_of c.placed node (deed.Does word)) (shape_of p)) (l.left_is ∙ ap (λ z. backs ts z (left_of q)) j.shape_is);
  }

  if_as : (s : Statement) (p : Place) (made : ℕ) (side : Side) (over : Bool) (y no' : ℕ) (later : List Block) (ys : List Tree) (py : Place) (made1 after : ℕ) (later1 : List Block) (ns : List Tree) (pn : Place) (made2 : ℕ) (later2 : List Block) (ts : List Tree) (q : Place) →
      JoinsAs s p (Amid made side over [] (Branch y no') later) → Lie (Anew made y later) ys py → FromAs py made1 after later1 → Lie (Anew made1 no' later1) ns pn → FromAs pn made2 after later2 → Lie (Anew made2 after later2) ts q →
      LieBy (if_cut (side_at s) s (cuts_of c.placed ys) (cuts_of c.placed ns)) p ts q
  if_as s p made side over y no' later ys py made1 after later1 ns pn made2 later2 ts q j ly fy ln fn l =
      let k = made_after (side_at s) (shape_of p) in
      let k1 = made_in (afters ys (Closed k)) in
      let k2 = made_in (afters ns (Closed k1)) in
      let e : made ≡ k = ap made_in j.shape_is in
      let e1 : made1 ≡ k1 = fy.made_is ∙ ap made_in ly.shape_is ∙ ap (λ n. made_in (afters ys (Closed n))) e in
      let e2 : made2 ≡ k2 = fn.made_is ∙ ap made_in ln.shape_is ∙ ap (λ n. made_in (afters ns (Closed n))) e1 in
      let r : Left = backs ts (Closed k2) (left_of q) in
      let r_is : left_closed after later2 ≡ r = l.left_is ∙ ap (λ n. backs ts (Closed n) (left_of q)) e2 in
      let other : ℕ → Left → Left = λ n x. backs ns (Closed n) (closing (afters ns (Closed n)) x.to x.later) in
      let other_is : left_closed no' later1 ≡ other k1 r = ln.left_is ∙ ap (backs ns (Closed made1)) (fn.left_is ∙ ap (λ z. closing z after later2) ln.shape_is) ∙ ap (λ n. other n (left_closed after later2)) e1 ∙ ap (other k1) r_is in
      let branch : ℕ → Left → Left → Left = λ n x o. backs ys (Closed n) (closing (afters ys (Closed n)) x.to o.later) in
      let branch_is : left_closed y later ≡ branch k r (other k1 r) = ly.left_is ∙ ap (backs ys (Closed made)) (fy.left_is ∙ ap (λ z. closing z after later1) ly.shape_is) ∙ ap (λ n. branch n (left_closed after later2) (left_closed no' later1)) e ∙ ap (λ x. branch k x (left_closed no' later1)) r_is ∙ ap (branch k r) other_is in
      let whole : Left → Left → Left = λ b o. left_before m (side_at s) s (shape_of p) (left_open [] (Branch b.to o.to) b.later) in
      record {
        shape_is = l.shape_is ∙ ap (λ n. afters ts (Closed n)) e2;
        left_is = j.left_is ∙ ap (λ b. whole b (left_closed no' later1)) branch_is ∙ ap (whole (branch k r (other k1 r))) other_is;
      }

  loop_as : (s : Statement) (p : Place) (made : ℕ) (later : List Block) (first : List Tree) (pf : Place) (made1 : ℕ) (side : Side) (over : Bool) (y after : ℕ) (later1 : List Block) (body : List Tree) (pb : Place) (made2 : ℕ) (later2 : List Block) (ts : List Tree) (q : Place) →
      FromAs p made (suc made) later → Lie (Anew made (suc made) later) first pf → JoinsAs s pf (Amid made1 side over [] (Branch y after) later1) → Lie (Anew made1 y later1) body pb → FromAs pb made2 (suc made) later2 → Lie (Anew made2 after later2) ts q →
      LieBy (loop_cut (side_at s) s (cuts_of c.placed first) (cuts_of c.placed body)) p ts q
  loop_as s p made later first pf made1 side over y after later1 body pb made2 later2 ts q f lf j lb fb l =
      let k = made_in (shape_of p) in
      let tested : ℕ → Shape = λ n. afters first (Closed n) in
      let k1 = made_after (side_at s) (tested k) in
      let k2 = made_in (afters body (Closed k1)) in
      let e : made ≡ k = f.made_is in
      let e1 : made1 ≡ k1 = ap made_in j.shape_is ∙ ap (made_after (side_at s)) (lf.shape_is ∙ ap tested e) in
      let e2 : made2 ≡ k2 = fb.made_is ∙ ap made_in lb.shape_is ∙ ap (λ n. made_in (afters body (Closed n))) e1 in
      let r : Left = backs ts (Closed k2) (left_of q) in
      let r_is : left_closed after later2 ≡ r = l.left_is ∙ ap (λ n. backs ts (Closed n) (left_of q)) e2 in
      let inner : ℕ → ℕ → Left → Left = λ n n1 x. backs body (Closed n1) (closing (afters body (Closed n1)) (suc n) x.later) in
      let inner_is : left_closed y later1 ≡ inner k k1 r = lb.left_is ∙ ap (backs body (Closed made1)) (fb.left_is ∙ ap (λ z. closing z (suc made) later2) lb.shape_is) ∙ ap (λ n. inner n made1 (left_closed after later2)) e ∙ ap (λ n. inner k n (left_closed after later2)) e1 ∙ ap (inner k k1) r_is in
      let before : ℕ → Left → Left → Left = λ n i x. backs first (Closed n) (left_before m (side_at s) s (tested n) (left_open [] (Branch i.to x.to) i.later)) in
      let before_is : left_closed (suc made) later ≡ before k (inner k k1 r) r = lf.left_is ∙ ap (backs first (Closed made)) (j.left_is ∙ ap (λ z. left_before m (side_at s) s z (left_open [] (Branch y after) later1)) lf.shape_is) ∙ ap (λ n. before n (left_closed y later1) (left_closed after later2)) e ∙ ap (λ i. before k i (left_closed after later2)) inner_is ∙ ap (before k (inner k k1 r)) r_is in
      record {
        shape_is = l.shape_is ∙ ap (λ n. afters ts (Closed n)) e2;
        left_is = f.left_is ∙ ap (λ n. closing (shape_of p) (suc n) later) e ∙ ap (λ (b : Left). closing (shape_of p) (suc k) b.later) before_is;
      }

  lie : (p q : Place) (ts : List Tree) → In c m p ts q → Lie p ts q
  lie p q ts nothing = record { shape_is = refl; left_is = refl }
  lie p q ts (in_stays {node = node} {word = word} {ts = rest} no_call no_operation j d) =
      lie_by (Do node word) _ p rest q (cut_do c.placed node word ∙ ap (word_cut (side_of c.placed.sides node) (statement_of c.placed node (deed.Does word)) (is_return word)) (kind_plain word no_call no_operation))
      (plain_as node word p _ _ _ _ _ _ rest q (joins_as _ p _ j) (lie _ q rest d))
  lie p q ts (in_asks {node = node} {word = word} {ts = rest} is_op e j d) =
      lie_by (Do node word) _ p rest q (cut_do c.placed node word ∙ ap (word_cut (side_of c.placed.sides node) (statement_of c.placed node (deed.Does word)) (is_return word)) (kind_operation word is_op))
      (last_as (statement_of c.placed node (deed.Does word)) (λ firsts to. exit_to to) p _ _ _ _ _ _ rest q (joins_as _ p _ j) e (lie _ q rest d))
  lie p q ts (in_calls {node = node} {method = method} {to = to} {of = of} {args = args} {ts = rest} j d) =
      let word = w.Call to of method args in
      lie_by (Do node word) _ p rest q (cut_do c.placed node word)
      (last_as (statement_of c.placed node (deed.Does word)) (λ firsts to. Call (first_in firsts method) to) p _ _ _ _ _ _ rest q (joins_as _ p _ j) refl (lie _ q rest d))
  lie p q ts (in_branches {py = py} {pn = pn} {node = node} {a = a} {ys = ys} {ns = ns} {ts = rest} j dy fy dn fn d) =
      lie_by (If node a ys ns) _ p rest q (cut_if c.placed node a ys ns)
      (if_as (statement_of c.placed node (deed.Chooses a)) p _ _ _ _ _ _ ys py _ _ _ ns pn _ _ rest q (joins_as _ p _ j) (lie _ py ys dy) (from_as py _ _ _ fy) (lie _ pn ns dn) (from_as pn _ _ _ fn) (lie _ q rest d))
  lie p q ts (in_turns {pf = pf} {pb = pb} {node = node} {a = a} {first = first} {body = body} {ts = rest} f df j db fb d) =
      lie_by (Loop first node a body) _ p rest q (cut_loop c.placed first node a body)
      (loop_as (statement_of c.placed node (deed.Tests a)) p _ _ first pf _ _ _ _ _ _ body pb _ _ rest q (from_as p _ _ _ f) (lie _ pf first df) (joins_as _ pf _ j) (lie _ pb body db) (from_as pb _ _ _ fb) (lie _ q rest d))

-- ---- methods

module _ (c : Cutting) where
  record MethodsAs (m made : ℕ) (methods : List Method) (firsts : List ℕ) (later : List Block) : Type 0 where
    firsts_are : firsts ≡ firsts_from c.placed made methods
    blocks_are : later ≡ blocks_from c.placed c.firsts m made methods

  method_as : (m made first made1 : ℕ) (q : Place) (method : Method) (methods : List Method) (firsts : List ℕ) (later later1 : List Block) →
      Lie c m (Anew made first later) method.body q → FromAs c m q made1 0 later1 → MethodsAs (suc m) made1 methods firsts later1 → MethodsAs m made (method ∷ methods) (first ∷ firsts) later
  method_as m made first made1 q method methods firsts later later1 l f rest =
      let shape = body_shape c.placed made method in
      let e : made1 ≡ made_in shape = f.made_is ∙ ap made_in l.shape_is in
      let back : List Block → Left = λ bs. back_all (cuts_of c.placed method.body) c.firsts m (Closed made) (closing shape 0 bs) in
      let all : left_closed first later ≡ back later1 = l.left_is ∙ ap (back_all (cuts_of c.placed method.body) c.firsts m (Closed made)) (f.left_is ∙ ap (λ z. closing z 0 later1) l.shape_is) in
      record {
        firsts_are = ap (λ k. k ∷ firsts) (ap (λ (x : Left). x.to) all ∙ body_first c m made method.body (left_closed 0 later1)) ∙ ap (λ fs. first_block made method.body ∷ fs) (rest.firsts_are ∙ ap (λ n. firsts_from c.placed n methods) e);
        blocks_are = ap (λ (x : Left). x.later) all ∙ ap (λ bs. (back bs).later) (rest.blocks_are ∙ ap (λ n. blocks_from c.placed c.firsts (suc m) n methods) e);
      }

  methods_as : (m made : ℕ) (methods : List Method) (firsts : List ℕ) (later : List Block) → AreMethods c m made methods firsts later → MethodsAs m made methods firsts later
  methods_as m made methods firsts later none = record { firsts_are = refl; blocks_are = refl }
  methods_as m made methods firsts later (one {first = first} {made1 = made1} {q = q} {method = method} {methods = rest_methods} {firsts = rest_firsts} {later1 = later1} d f rest) =
      method_as m made first made1 q method rest_methods rest_firsts later later1 (lie c m _ q method.body d) (from_as c m q made1 0 later1 f) (methods_as (suc m) made1 rest_methods rest_firsts later1 rest)

abbrev blocks_as : List ℕ → List Block → Blocks
blocks_as firsts blocks = record { firsts = firsts; blocks = blocks }

is_cut : (code : Code) (P : Placed) (xs : Blocks) → IsCut code P xs → xs ≡ cut code P
unfolding cut
is_cut code P xs d =
    let a = methods_as (cutting P xs) 1 0 code.methods xs.firsts xs.blocks d in
    ap (blocks_as xs.firsts) a.blocks_are ∙ ap (λ fs. blocks_as fs (blocks_from P fs 1 0 code.methods)) a.firsts_are

pub cut_is_one : CutIsOne
cut_is_one code P xs ys dx dy = is_cut code P xs dx ∙ sym (is_cut code P ys dy)
