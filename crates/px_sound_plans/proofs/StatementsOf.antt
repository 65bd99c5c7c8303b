-- The statements of code, as blocks and points-to have them.
use Rattle.std.proofs.Common.{◌≡◌, ℕ, zero, suc, List, ◌∷◌, Some, slice_get, refl}
use Rattle.px_normal.specs.declared.word.Word.{Word}
use Rattle.px_normal.specs.declared.method.Tree.{Tree}
use Rattle.px_normal.specs.declared.method.Tree.TheVariants.{Do, If, Loop}
use Rattle.px_normal.specs.declared.code.Code.{Code}
use Rattle.px_flow_points.specs.Statements.{Stands, here, in_yes, in_no, in_first, in_body, HasStatement}
use Rattle.px_blocks.specs.declared.block.Deed.{Deed}
use Rattle.px_blocks.specs.declared.block.Deed.TheVariants as deed
use Rattle.px_blocks.specs.Has.{Has, does, chooses, tests, in_yes as has_yes, in_no as has_no, in_first as has_first, in_body as has_body, behind, HasStatement as HasDeed}

-- a statement stands in one of the trees
record InList (node : ℕ) (word : Word) (ts : List Tree) : Type 0 where
  place : ℕ
  tree : Tree
  at : slice_get ts place ≡ Some tree
  stands : Stands node word tree

abbrev Goal : (node : ℕ) → Deed → List Tree → Type 0
Goal node (deed.Does word) ts = InList node word ts
Goal node d ts = Unit {0}

first_one : (node : ℕ) (word : Word) (t : Tree) (ts : List Tree) → Stands node word t → InList node word (t ∷ ts)
first_one node word t ts s = record { place = zero; tree = t; at = refl; stands = s }

in_list : (node : ℕ) (word : Word) (d : Deed) (ts : List Tree) → d ≡ deed.Does word → Has ts node d → InList node word ts
in_list node word d ts e (does {word = v} {ts = rest}) = first_one node word _ rest (here (ap_do e))
  where
    ap_do : {v : Word} → deed.Does v ≡ deed.Does word → Do node v ≡ Do node word
    ap_do e = cc
in_list node word d ts e (chooses ys ns) = cc
in_list node word d ts e (tests first body) = cc
in_list node word d ts e (has_yes {ys = ys} {ts = rest} at a ns h) = let r = in_list node word d ys e h in first_one node word (If at a ys ns) rest (in_yes at r.place a ys ns r.tree refl r.at r.stands)
in_list node word d ts e (has_no {ns = ns} {ts = rest} at a ys h) = let r = in_list node word d ns e h in first_one node word (If at a ys ns) rest (in_no at r.place a ys ns r.tree refl r.at r.stands)
in_list node word d ts e (has_first {first = first} {ts = rest} at a body h) = let r = in_list node word d first e h in first_one node word (Loop first at a body) rest (in_first at r.place a first body r.tree refl r.at r.stands)
in_list node word d ts e (has_body {body = body} {ts = rest} first at a h) = let r = in_list node word d body e h in first_one node word (Loop first at a body) rest (in_body at r.place a first body r.tree refl r.at r.stands)
in_list node word d ts e (behind {ts = rest} h) = let r = in_list node word d rest e h in record { place = suc r.place; tree = r.tree; at = r.at; stands = r.stands }

pub statement_of : (code : Code) (m node : ℕ) (word : Word) → HasDeed code m node (deed.Does word) → HasStatement code m node word
statement_of code m node word h = let r = in_list node word (deed.Does word) h.method.body refl h.has in record { method = h.method; is = record { is = h.is }; place = r.place; tree = r.tree; at = r.at; stands = r.stands }
