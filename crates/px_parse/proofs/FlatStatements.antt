-- What spells a statement has roles that are one.
use Rattle.std.proofs.Common.{◌≡◌, ℕ, Bool, false, List, [], ◌∷◌, ◌++◌, append_assoc}
use Rattle.px_words.specs.declared.lexeme.Lexeme.{Lexeme}
use Rattle.px_words.specs.declared.lexeme.Word.TheVariants as w
use Rattle.px_tree.specs.declared.Stmt.{Stmt}
use Rattle.px_accept.specs.declared.role.Role.{Role}
use Rattle.px_accept.specs.declared.role.Role.TheVariants as r
use Rattle.px_accept.specs.Grammar as f
use Rattle.px_accept.specs.Grammar.{Spelled}
use Rattle.px_parse.specs.Grammar as g
use Rattle.px_parse.specs.Grammar.{SpellsSimple, SpellsLocal, SpellsFirst, SpellsStatement, SpellsItem, SpellsItems}
use Rattle.px_words.specs.Roles.{roles_of}
use Rattle.px_parse.proofs.PartsOf.{roles_join}
use Rattle.px_parse.proofs.RolesOf.{name_of_word, compound_of_word}
use Rattle.px_parse.proofs.PrintFronts.{no_print_by_roles}
use Rattle.px_parse.proofs.FlatExpressions.{ending_of, flat_type, flat_expression, flat_postfix}

assigned : (k : g.Ending) (ts a b : List Role) → g.IsPlace k → ts ≡ a ++ r.Assign ∷ b → Spelled (f.Postfix (ending_of k)) a → Spelled f.Expression b → Spelled f.SimpleStatement ts
assigned _ ts a b g.IsPlace.name e s t = f.assign_name a b e s t
assigned _ ts a b g.IsPlace.field e s t = f.assign_field a b e s t
assigned _ ts a b g.IsPlace.element e s t = f.assign_element a b e s t

pub flat_simple : (source : List ℕ) (s : Stmt) (xs : List Lexeme) → SpellsSimple source s xs → Spelled f.SimpleStatement (roles_of xs)
flat_simple source _ _ (g.SpellsSimple.assignment ending k place value ps xs equals i h p s) =
    assigned ending _ (roles_of ps) (roles_of xs) i (cc (roles_join ps (equals ∷ xs))) (flat_postfix source ending place ps p) (flat_expression source k value xs s)
flat_simple source _ _ (g.SpellsSimple.compound x at op k value xs h i s) =
    let n = name_of_word x.word h in
    f.compound n.0 (roles_of xs) (cc (n.1, compound_of_word at.word op i)) (flat_expression source k value xs s)
flat_simple source _ _ (g.SpellsSimple.up x at h i) = let n = name_of_word x.word h in f.stepped n.0 (cc n.1)
flat_simple source _ _ (g.SpellsSimple.down x at h i) = let n = name_of_word x.word h in f.stepped n.0 (cc n.1)
flat_simple source _ _ (g.SpellsSimple.call e xs p) = f.called (flat_postfix source g.AtCall e xs p)

flat_item_local : (source : List ℕ) (s : Stmt) (xs : List Lexeme) (semicolon : Lexeme) → semicolon.word ≡ w.Semicolon → SpellsLocal source s xs → Spelled f.Item (roles_of (xs ++ semicolon ∷ []))
flat_item_local source _ _ semicolon h (g.SpellsLocal.local ty name equals k value ts xs i j t s) =
    let n = name_of_word name.word i in
    f.declaration n.0 (roles_of ts) (roles_of xs)
    (cc (n.1, append_assoc ts (name ∷ equals ∷ xs) (semicolon ∷ []), roles_join ts (name ∷ equals ∷ xs ++ semicolon ∷ []), roles_join xs (semicolon ∷ [])))
    (flat_type source ty ts t) (flat_expression source k value xs s)

flat_first : (source : List ℕ) (s : Stmt) (xs : List Lexeme) → SpellsFirst source s xs → Spelled f.ForInit (roles_of xs)
flat_first source _ _ (g.SpellsFirst.local (g.SpellsLocal.local ty name equals k value ts xs i j t s)) =
    let n = name_of_word name.word i in
    f.init_declaration n.0 (roles_of ts) (roles_of xs) (cc (n.1, roles_join ts (name ∷ equals ∷ xs))) (flat_type source ty ts t) (flat_expression source k value xs s)
flat_first source s xs (g.SpellsFirst.simple h) = f.init_simple (flat_simple source s xs h)

mutual
  pub flat_statement : (source : List ℕ) (o : Bool) (s : Stmt) (xs : List Lexeme) → SpellsStatement source o s xs → Spelled (f.Statement o) (roles_of xs)
  flat_statement source _ _ _ (g.SpellsStatement.block opening closing items xs h i s) = f.statement_block (f.block (roles_of xs) (cc (roles_join xs (closing ∷ []))) (flat_items source items xs s))
  flat_statement source _ _ _ (g.SpellsStatement.empty semicolon h) = f.empty (cc h)
  flat_statement source _ _ _ (g.SpellsStatement.simple s xs semicolon h p t) = f.simple (roles_of xs) (cc (roles_join xs (semicolon ∷ []))) (no_print_by_roles (xs ++ semicolon ∷ []) p) (flat_simple source s xs t)
  flat_statement source _ _ _ (g.SpellsStatement.if_alone o x opening closing k test then_part ts ys h i j s t) =
      f.if_alone o (roles_of ts) (roles_of ys) (cc (roles_join ts (closing ∷ ys))) (flat_expression source k test ts s) (flat_statement source o then_part ys t)
  flat_statement source _ _ _ (g.SpellsStatement.if_else o x opening closing other k test then_part else_part ts ys ns h i j l s t u) =
      f.if_else o (roles_of ts) (roles_of ys) (roles_of ns)
      (cc (append_assoc ts (closing ∷ ys) (other ∷ ns), roles_join ts (closing ∷ ys ++ other ∷ ns), roles_join ys (other ∷ ns)))
      (flat_expression source k test ts s) (flat_statement source false then_part ys t) (flat_statement source o else_part ns u)
  flat_statement source _ _ _ (g.SpellsStatement.while_loop o x opening closing k test body ts bs h i j s t) =
      f.while_loop o (roles_of ts) (roles_of bs) (cc (roles_join ts (closing ∷ bs))) (flat_expression source k test ts s) (flat_statement source o body bs t)
  flat_statement source _ _ _ (g.SpellsStatement.for_loop o x opening semicolon again closing k first test last body fs ts ls bs h i j l m s t u v) =
      f.for_loop o (roles_of fs) (roles_of ts) (roles_of ls) (roles_of bs)
      (cc (append_assoc (fs ++ semicolon ∷ ts) (again ∷ ls) (closing ∷ bs), append_assoc fs (semicolon ∷ ts) (again ∷ ls ++ closing ∷ bs), roles_join fs (semicolon ∷ ts ++ (again ∷ ls ++ closing ∷ bs)), roles_join ts (again ∷ ls ++ closing ∷ bs), roles_join ls (closing ∷ bs)))
      (flat_first source first fs s) (flat_expression source k test ts t) (flat_simple source last ls u) (flat_statement source o body bs v)
  flat_statement source _ _ _ (g.SpellsStatement.return_nothing x semicolon h i) = f.return_alone (cc (h, i))
  flat_statement source _ _ _ (g.SpellsStatement.return_value x semicolon k value xs h i s) = f.return_value (roles_of xs) (cc (roles_join xs (semicolon ∷ []))) (flat_expression source k value xs s)
  flat_statement source _ _ _ (g.SpellsStatement.print system dot out point println opening closing semicolon k value xs h1 h2 h3 h4 h5 h6 h7 h8 s) =
      f.print (roles_of xs) (cc (roles_join xs (closing ∷ semicolon ∷ []))) (flat_expression source k value xs s)

  pub flat_item : (source : List ℕ) (s : Stmt) (xs : List Lexeme) → SpellsItem source s xs → Spelled f.Item (roles_of xs)
  flat_item source _ _ (g.SpellsItem.local s xs semicolon h t) = flat_item_local source s xs semicolon h t
  flat_item source s xs (g.SpellsItem.statement o h) = f.item_statement o (flat_statement source o s xs h)

  pub flat_items : (source : List ℕ) (ss : List Stmt) (xs : List Lexeme) → SpellsItems source ss xs → Spelled f.ItemList (roles_of xs)
  flat_items source _ _ g.SpellsItems.no_item = f.no_item
  flat_items source _ _ (g.SpellsItems.item s ss xs ys h t) = f.item_more (roles_of xs) (roles_of ys) (roles_join xs ys) (flat_item source s xs h) (flat_items source ss ys t)
