-- The sends of statements are fixed, and so are the texts.
use Rattle.std.proofs.Common.{◌≡◌, ℕ, suc, List, [], ◌∷◌, ◌++◌, map, length, Option, Some, None, slice_get, refl, sym, ap, ◌∙◌}
use Rattle.std.specs.List.{AllByRecursion, flat_map}
use Rattle.px_normal.specs.declared.word.Word.{Word}
use Rattle.px_normal.specs.declared.method.Tree.{Tree}
use Rattle.px_normal.specs.declared.method.Method.{Method}
use Rattle.px_normal.specs.declared.code.Code.{Code}
use Rattle.px_flow_points.specs.Statements.{Stands, here, in_yes, in_no, in_first, in_body, HasStatement}
use Rattle.px_flow_points.proofs.Trees.{TreeCases, each_tree}
use Rattle.px_blocks.specs.declared.side.Side.{Side}
use Rattle.px_blocks.specs.declared.block.Send.{Send}
use Rattle.px_blocks.specs.declared.placed.Placed.{Placed}
use Rattle.px_blocks.specs.Rules.{side_of, send_of}
use Rattle.px_sync.specs.Sends.{IsRightSend, HasSends}
use Rattle.px_pyxil.specs.declared.tree.At.{At}
use Rattle.px_pyxil.specs.declared.tree.Tree.TheVariants as named_tree_of
use Rattle.px_pyxil.specs.declared.tree.Method.{Method as NamedMethod}
use Rattle.px_pyxil.specs.declared.tree.Pyxil.{Pyxil}
use Rattle.px_named.specs.Named.{named_word, at_side, named_tree, named_trees, member_of, named_method, placed_fields, sites_from, named}
use Rattle.px_named.specs.Parts.{part_text}
use Rattle.px_named.proofs.Forms.{named_do, named_if, named_loop}
use Rattle.px_job.specs.declared.job.Part.{Part}
use Rattle.px_parts.specs.Sides.{placement_of}
use Rattle.px_parts.specs.Texts.{IsPartText, AreTexts, none, more, AreOwn}
use Rattle.px_parts.specs.Law.{SplitIsOne}

-- ---- one placement, and the same sends at the statements

module _ (code : Code) (p q : Placed) (sides : p.sides ≡ q.sides) where
  abbrev SendsAlike : Tree → Type 0
  SendsAlike x = (node : ℕ) (word : Word) → Stands node word x → send_of p.sends node ≡ send_of q.sends node

  abbrev AllAlike : List Tree → Type 0
  AllAlike ts = (k : ℕ) (y : Tree) → slice_get ts k ≡ Some y → SendsAlike y

  abbrev Same : Tree → Type 0
  Same x = SendsAlike x → named_tree code p x ≡ named_tree code q x

  same_at : (node : ℕ) → at_side p node ≡ at_side q node
  same_at node = ap (λ (ss : List Side). record { node = node; side = side_of ss node }) sides

  same_trees : (ts : List Tree) → AllByRecursion Same ts → AllAlike ts → named_trees code p ts ≡ named_trees code q ts
  same_trees [] all h = refl
  same_trees (x ∷ ts) all h = λ i. all.0 (h 0 x refl) i ∷ same_trees ts all.1 (λ k y e. h (suc k) y e) i

  same_cases : TreeCases Same
  same_cases = record {
    on_do = λ node word h. named_do code p _ node word refl ∙ (λ i. named_tree_of.Do (same_at node i) (named_word code word) (h node word (here refl) i)) ∙ sym (named_do code q _ node word refl);
    on_if = λ node a ys ns first rest h.
        named_if code p _ node a ys ns refl
        ∙ (λ i. named_tree_of.If (same_at node i) a (same_trees ys first (λ k y e n w s. h n w (in_yes node k a ys ns y refl e s)) i) (same_trees ns rest (λ k y e n w s. h n w (in_no node k a ys ns y refl e s)) i))
        ∙ sym (named_if code q _ node a ys ns refl);
    on_loop = λ before node a body first rest h.
        named_loop code p _ before node a body refl
        ∙ (λ i. named_tree_of.Loop (same_trees before first (λ k y e n w s. h n w (in_first node k a before body y refl e s)) i) (same_at node i) a (same_trees body rest (λ k y e n w s. h n w (in_body node k a before body y refl e s)) i))
        ∙ sym (named_loop code q _ before node a body refl);
  }

  each : (ts : List Tree) → AllByRecursion Same ts
  each [] = tt
  each (x ∷ ts) = (each_tree Same same_cases x, each ts)

  same_method : (m : Method) → AllAlike m.body → named_method code p m ≡ named_method code q m
  same_method m h = λ i. record { head = record { at = same_at m.node i; method = member_of code m; slots = length m.slots }; body = same_trees m.body (each m.body) h i }

  same_methods : (ms : List Method) → ((j : ℕ) (m : Method) → slice_get ms j ≡ Some m → AllAlike m.body) → map (named_method code p) ms ≡ map (named_method code q) ms
  same_methods [] h = refl
  same_methods (m ∷ ms) h = λ i. same_method m (h 0 m refl) i ∷ same_methods ms (λ j x e. h (suc j) x e) i

  same_named : ((j : ℕ) (m : Method) → slice_get code.methods j ≡ Some m → AllAlike m.body) → named code p ≡ named code q
  unfolding named
  same_named h = λ i. record { fields = flat_map (placed_fields (sides i)) code.classes; sites = sites_from (sides i) 1 code.sites; methods = same_methods code.methods h i }

-- ---- the sends that are needed

same_send : (code : Code) (sides : List Side) (node : ℕ) (word : Word) (s t : Option Send) → IsRightSend code sides node word s → IsRightSend code sides node word t → s ≡ t
same_send code sides node word None None a b = refl
same_send code sides node word None (Some t) a b = absurd (a b.0)
same_send code sides node word (Some s) None a b = absurd (b a.0)
same_send code sides node word (Some s) (Some t) a b = sym a.1 ∙ b.1

one_named : (code : Code) (sides : List Side) (p q : Placed) → AreOwn code → HasSends code sides p → HasSends code sides q → named code p ≡ named code q
one_named code sides p q own h k =
    same_named code p q (h.sides_are ∙ sym k.sides_are)
    (λ j m is place y at node word s.
    let has : HasStatement code (suc j) node word = record { method = m; is = record { is = is }; place = place; tree = y; at = at; stands = s } in
    same_send code sides node word _ _ (h.right (suc j) node word has (own (suc j) node word has)) (k.right (suc j) node word has (own (suc j) node word has)))

-- ---- texts

one_part : (code : Code) (part : Part) (t u : List ℕ) → AreOwn code → IsPartText code part t → IsPartText code part u → t ≡ u
one_part code part t u own h k = h.is ∙ ap (part_text part.name) (one_named code (placement_of part) h.placed k.placed own h.sends k.sends) ∙ sym k.is

-- the code and the parts fix the text
one_text : (code : Code) (parts : List Part) (t u : List ℕ) → AreOwn code → AreTexts code parts t → AreTexts code parts u → t ≡ u
one_text code [] _ _ own none none = refl
one_text code (part ∷ parts) _ _ own (more {text = a} {rest = one} h hs) (more {text = b} {rest = other} k ks) = λ i. one_part code part a b own h k i ++ one_text code parts one other own hs ks i

pub one_split : SplitIsOne
one_split code parts t u h k = one_text code parts t u h.own h.texts k.texts
