-- Lexemes whose roles are a statement spell one.
use Rattle.std.proofs.Common.{◌≡◌, inl, inr, ℕ, Bool, true, false, List, [], ◌∷◌, ◌++◌, Some, None, refl, sym, ap, ◌∙◌, append_assoc}
use Rattle.px_words.specs.declared.lexeme.Lexeme.{Lexeme}
use Rattle.px_words.specs.declared.lexeme.Word.TheVariants as w
use Rattle.px_tree.specs.declared.Stmt.{Stmt}
use Rattle.px_accept.specs.declared.role.Role.{Role}
use Rattle.px_accept.specs.declared.role.Role.TheVariants as r
use Rattle.px_accept.specs.declared.role.Spelling.{Spelling}
use Rattle.px_accept.specs.declared.role.Spelling.TheVariants as s
use Rattle.px_accept.specs.Grammar as f
use Rattle.px_accept.specs.Grammar.{begins_print}
use Rattle.px_parse.specs.Trees.{block_of, empty_of, local_of, assignment_of, compound_of, up_of, down_of, call_statement_of, if_of, while_of, for_of, return_of, print_of}
use Rattle.px_parse.specs.Grammar as g
use Rattle.px_parse.specs.Grammar.{SpellsLocal, is_print, words_of}
use Rattle.px_words.specs.Roles.{roles_of}
use Rattle.px_parse.proofs.RolesOf.{compound_is, step_is}
use Rattle.px_parse.proofs.PartsOf.{first, cut, key, final, named, none}
use Rattle.px_parse.proofs.PrintFronts.{no_print_by_words}
use Rattle.px_parse.proofs.MadeOf.{ending_at, Makes, made_at}

-- ---- simple statements

pub made_assignment : (source : List ℕ) (k : f.Ending) (a b : List Role) → g.IsPlace (ending_at k) → Makes source (f.Postfix k) a → Makes source f.Expression b → Makes source f.SimpleStatement (a ++ r.Assign ∷ b)
made_assignment source k a b i m n xs h =
    let c = cut a (r.Assign ∷ b) xs h in
    let q = key r.Assign w.Assign b c.rest refl c.roles in
    let p = m c.front c.fronts in
    let e = n q.rest q.roles in
    made_at source f.SimpleStatement xs (c.front ++ q.x ∷ q.rest) (cc (c.same, q.same)) (assignment_of p.0 e.0, g.SpellsSimple.assignment (ending_at k) e.1 p.0 e.0 c.front q.rest q.x i q.is p.1 e.2)

pub made_compound : (source : List ℕ) (n : Spelling) (b : List Role) → Makes source f.Expression b → Makes source f.SimpleStatement (r.Name n ∷ r.Compound ∷ b)
made_compound source n b m xs h =
    let x = named n (r.Compound ∷ b) xs h in
    let q = first r.Compound b x.rest x.roles in
    let e = m q.rest q.roles in
    let op = compound_is q.x.word q.role in
    made_at source f.SimpleStatement xs (x.x ∷ q.x ∷ q.rest) (cc (x.same, q.same)) (compound_of source x.x op.0 e.0, g.SpellsSimple.compound x.x q.x op.0 e.1 e.0 q.rest x.is op.1 e.2)

pub made_step : (source : List ℕ) (n : Spelling) → Makes source f.SimpleStatement (r.Name n ∷ r.Step ∷ [])
made_step source n xs h =
    let x = named n (r.Step ∷ []) xs h in
    let q = first r.Step [] x.rest x.roles in
    made_at source f.SimpleStatement xs (x.x ∷ q.x ∷ []) (cc (x.same, q.same, none q.rest q.roles)) (elim (step_is q.x.word q.role) [
      | inl i ↦ (up_of source x.x, g.SpellsSimple.up x.x q.x x.is i)
      | inr i ↦ (down_of source x.x, g.SpellsSimple.down x.x q.x x.is i)
    ])

pub made_call : (source : List ℕ) (ts : List Role) → Makes source (f.Postfix f.Call) ts → Makes source f.SimpleStatement ts
made_call source ts m xs h = let e = m xs h in (call_statement_of e.0, g.SpellsSimple.call e.0 xs e.1)

-- ---- local variables

abbrev MakesLocal : List ℕ → List Role → Type 0
MakesLocal source ts = (xs : List Lexeme) → roles_of xs ≡ ts → (s : Stmt) × SpellsLocal source s xs

local_at : (source : List ℕ) (s : Stmt) (xs ys : List Lexeme) → xs ≡ ys → SpellsLocal source s ys → (t : Stmt) × SpellsLocal source t xs
local_at source s xs ys e l = (s, rw e l)

made_local : (source : List ℕ) (n : Spelling) (a b : List Role) → Makes source f.TypeName a → Makes source f.Expression b → MakesLocal source (a ++ (r.Name n ∷ r.Assign ∷ b))
made_local source n a b m e xs h =
    let c = cut a (r.Name n ∷ r.Assign ∷ b) xs h in
    let x = named n (r.Assign ∷ b) c.rest c.roles in
    let q = key r.Assign w.Assign b x.rest refl x.roles in
    let ty = m c.front c.fronts in
    let v = e q.rest q.roles in
    local_at source (local_of source ty.0 x.x v.0) xs (c.front ++ x.x ∷ q.x ∷ q.rest) (cc (c.same, x.same, q.same)) (g.SpellsLocal.local ty.0 x.x q.x v.1 v.0 c.front q.rest x.is q.is ty.1 v.2)

pub made_declaration : (source : List ℕ) (n : Spelling) (a b : List Role) → Makes source f.TypeName a → Makes source f.Expression b → Makes source f.Item (a ++ (r.Name n ∷ r.Assign ∷ b ++ r.Semicolon ∷ []))
made_declaration source n a b m e xs h =
    let c = cut (a ++ (r.Name n ∷ r.Assign ∷ b)) (r.Semicolon ∷ []) xs (h ∙ sym (append_assoc a (r.Name n ∷ r.Assign ∷ b) (r.Semicolon ∷ []))) in
    let z = final r.Semicolon w.Semicolon c.rest refl c.roles in
    let l = made_local source n a b m e c.front c.fronts in
    made_at source f.Item xs (c.front ++ z.x ∷ []) (cc (c.same, z.same)) (l.0, g.SpellsItem.local l.0 c.front z.x z.is l.1)

pub made_init : (source : List ℕ) (n : Spelling) (a b : List Role) → Makes source f.TypeName a → Makes source f.Expression b → Makes source f.ForInit (a ++ (r.Name n ∷ r.Assign ∷ b))
made_init source n a b m e xs h = let l = made_local source n a b m e xs h in (l.0, g.SpellsFirst.local l.1)

pub made_simple_init : (source : List ℕ) (ts : List Role) → Makes source f.SimpleStatement ts → Makes source f.ForInit ts
made_simple_init source ts m xs h = let s = m xs h in (s.0, g.SpellsFirst.simple s.1)

-- ---- blocks

pub made_block : (source : List ℕ) (a : List Role) → Makes source f.ItemList a → Makes source f.Block (r.OpenBrace ∷ a ++ r.CloseBrace ∷ [])
made_block source a m xs h =
    let o = key r.OpenBrace w.OpenBrace (a ++ r.CloseBrace ∷ []) xs refl h in
    let c = cut a (r.CloseBrace ∷ []) o.rest o.roles in
    let z = final r.CloseBrace w.CloseBrace c.rest refl c.roles in
    let ss = m c.front c.fronts in
    record { begin = o.x; finish = z.x; items = ss.0; inner = c.front; same = cc (o.same, c.same, z.same); begins = o.is; finishes = z.is; spelled = ss.1 }

pub made_no_item : (source : List ℕ) → Makes source f.ItemList []
made_no_item source xs h = made_at source f.ItemList xs [] (none xs h) ([], g.SpellsItems.no_item)

pub made_items : (source : List ℕ) (a b : List Role) → Makes source f.Item a → Makes source f.ItemList b → Makes source f.ItemList (a ++ b)
made_items source a b m n xs h =
    let c = cut a b xs h in
    let s = m c.front c.fronts in
    let ss = n c.rest c.roles in
    made_at source f.ItemList xs (c.front ++ c.rest) c.same (s.0 ∷ ss.0, g.SpellsItems.item s.0 ss.0 c.front c.rest s.1 ss.1)

pub made_item : (source : List ℕ) (o : Bool) (ts : List Role) → Makes source (f.Statement o) ts → Makes source f.Item ts
made_item source o ts m xs h = let s = m xs h in (s.0, g.SpellsItem.statement o s.1)

-- ---- statements

pub made_block_statement : (source : List ℕ) (ts : List Role) → Makes source f.Block ts → Makes source (f.Statement false) ts
made_block_statement source ts m xs h =
    let b = m xs h in
    made_at source (f.Statement false) xs (b.begin ∷ b.inner ++ b.finish ∷ []) b.same (block_of b.begin b.items, g.SpellsStatement.block b.begin b.finish b.items b.inner b.begins b.finishes b.spelled)

pub made_empty : (source : List ℕ) → Makes source (f.Statement false) (r.Semicolon ∷ [])
made_empty source xs h =
    let z = final r.Semicolon w.Semicolon xs refl h in
    made_at source (f.Statement false) xs (z.x ∷ []) z.same (empty_of z.x, g.SpellsStatement.empty z.x z.is)

pub made_simple : (source : List ℕ) (a : List Role) → begins_print (a ++ r.Semicolon ∷ []) ≡ false → Makes source f.SimpleStatement a → Makes source (f.Statement false) (a ++ r.Semicolon ∷ [])
made_simple source a p m xs h =
    let c = cut a (r.Semicolon ∷ []) xs h in
    let z = final r.Semicolon w.Semicolon c.rest refl c.roles in
    let s = m c.front c.fronts in
    let same : xs ≡ c.front ++ z.x ∷ [] = cc (c.same, z.same) in
    let by_words : is_print (words_of (c.front ++ z.x ∷ [])) ≡ false = ap (λ (ys : List Lexeme). is_print (words_of ys)) (sym same) ∙ no_print_by_words xs (ap begins_print h ∙ p) in
    made_at source (f.Statement false) xs (c.front ++ z.x ∷ []) same (s.0, g.SpellsStatement.simple s.0 c.front z.x z.is by_words s.1)

pub made_if : (source : List ℕ) (o : Bool) (a b : List Role) → Makes source f.Expression a → Makes source (f.Statement o) b → Makes source (f.Statement true) (r.If ∷ r.Open ∷ a ++ (r.Close ∷ b))
made_if source o a b m n xs h =
    let x = key r.If w.If (r.Open ∷ a ++ (r.Close ∷ b)) xs refl h in
    let y = key r.Open w.Open (a ++ (r.Close ∷ b)) x.rest refl x.roles in
    let c = cut a (r.Close ∷ b) y.rest y.roles in
    let z = key r.Close w.Close b c.rest refl c.roles in
    let e = m c.front c.fronts in
    let s = n z.rest z.roles in
    made_at source (f.Statement true) xs (x.x ∷ y.x ∷ c.front ++ z.x ∷ z.rest) (cc (x.same, y.same, c.same, z.same)) (if_of x.x e.0 s.0 None, g.SpellsStatement.if_alone o x.x y.x z.x e.1 e.0 s.0 c.front z.rest x.is y.is z.is e.2 s.1)

pub made_if_else : (source : List ℕ) (o : Bool) (a b d : List Role) → Makes source f.Expression a → Makes source (f.Statement false) b → Makes source (f.Statement o) d → Makes source (f.Statement o) (r.If ∷ r.Open ∷ a ++ (r.Close ∷ b ++ r.Else ∷ d))
made_if_else source o a b d m n u xs h =
    let x = key r.If w.If (r.Open ∷ a ++ (r.Close ∷ b ++ r.Else ∷ d)) xs refl h in
    let y = key r.Open w.Open (a ++ (r.Close ∷ b ++ r.Else ∷ d)) x.rest refl x.roles in
    let c = cut a (r.Close ∷ b ++ r.Else ∷ d) y.rest y.roles in
    let z = key r.Close w.Close (b ++ r.Else ∷ d) c.rest refl c.roles in
    let c2 = cut b (r.Else ∷ d) z.rest z.roles in
    let v = key r.Else w.Else d c2.rest refl c2.roles in
    let e = m c.front c.fronts in
    let s = n c2.front c2.fronts in
    let t = u v.rest v.roles in
    made_at source (f.Statement o) xs (x.x ∷ y.x ∷ c.front ++ z.x ∷ c2.front ++ v.x ∷ v.rest) (cc (x.same, y.same, c.same, z.same, c2.same, v.same, append_assoc c.front (z.x ∷ c2.front) (v.x ∷ v.rest)))
    (if_of x.x e.0 s.0 (Some t.0), g.SpellsStatement.if_else o x.x y.x z.x v.x e.1 e.0 s.0 t.0 c.front c2.front v.rest x.is y.is z.is v.is e.2 s.1 t.1)

pub made_while : (source : List ℕ) (o : Bool) (a b : List Role) → Makes source f.Expression a → Makes source (f.Statement o) b → Makes source (f.Statement o) (r.While ∷ r.Open ∷ a ++ (r.Close ∷ b))
made_while source o a b m n xs h =
    let x = key r.While w.While (r.Open ∷ a ++ (r.Close ∷ b)) xs refl h in
    let y = key r.Open w.Open (a ++ (r.Close ∷ b)) x.rest refl x.roles in
    let c = cut a (r.Close ∷ b) y.rest y.roles in
    let z = key r.Close w.Close b c.rest refl c.roles in
    let e = m c.front c.fronts in
    let s = n z.rest z.roles in
    made_at source (f.Statement o) xs (x.x ∷ y.x ∷ c.front ++ z.x ∷ z.rest) (cc (x.same, y.same, c.same, z.same)) (while_of x.x e.0 s.0, g.SpellsStatement.while_loop o x.x y.x z.x e.1 e.0 s.0 c.front z.rest x.is y.is z.is e.2 s.1)

for_lexemes : (fs ts ls : List Lexeme) {x y p q z : Lexeme} {xs xs1 xs2 xs3 xs4 xs5 xs6 xs7 bs : List Lexeme} → xs ≡ x ∷ xs1 → xs1 ≡ y ∷ xs2 → xs2 ≡ fs ++ xs3 → xs3 ≡ p ∷ xs4 → xs4 ≡ ts ++ xs5 → xs5 ≡ q ∷ xs6 → xs6 ≡ ls ++ xs7 → xs7 ≡ z ∷ bs
    → xs ≡ x ∷ y ∷ fs ++ p ∷ ts ++ q ∷ ls ++ z ∷ bs
for_lexemes fs ts ls {p} {q} {z} {bs} a b c d e f g h = cc (append_assoc (fs ++ p ∷ ts) (q ∷ ls) (z ∷ bs), append_assoc fs (p ∷ ts) (q ∷ ls ++ z ∷ bs))

pub made_for : (source : List ℕ) (o : Bool) (a b d l : List Role) → Makes source f.ForInit a → Makes source f.Expression b → Makes source f.SimpleStatement d → Makes source (f.Statement o) l
    → Makes source (f.Statement o) (r.For ∷ r.Open ∷ a ++ (r.Semicolon ∷ b ++ (r.Semicolon ∷ d ++ (r.Close ∷ l))))
made_for source o a b d l m n u v xs h =
    let x = key r.For w.For (r.Open ∷ a ++ (r.Semicolon ∷ b ++ (r.Semicolon ∷ d ++ (r.Close ∷ l)))) xs refl h in
    let y = key r.Open w.Open (a ++ (r.Semicolon ∷ b ++ (r.Semicolon ∷ d ++ (r.Close ∷ l)))) x.rest refl x.roles in
    let c1 = cut a (r.Semicolon ∷ b ++ (r.Semicolon ∷ d ++ (r.Close ∷ l))) y.rest y.roles in
    let z1 = key r.Semicolon w.Semicolon (b ++ (r.Semicolon ∷ d ++ (r.Close ∷ l))) c1.rest refl c1.roles in
    let c2 = cut b (r.Semicolon ∷ d ++ (r.Close ∷ l)) z1.rest z1.roles in
    let z2 = key r.Semicolon w.Semicolon (d ++ (r.Close ∷ l)) c2.rest refl c2.roles in
    let c3 = cut d (r.Close ∷ l) z2.rest z2.roles in
    let z3 = key r.Close w.Close l c3.rest refl c3.roles in
    let i = m c1.front c1.fronts in
    let e = n c2.front c2.fronts in
    let s = u c3.front c3.fronts in
    let t = v z3.rest z3.roles in
    made_at source (f.Statement o) xs (x.x ∷ y.x ∷ c1.front ++ z1.x ∷ c2.front ++ z2.x ∷ c3.front ++ z3.x ∷ z3.rest)
    (for_lexemes c1.front c2.front c3.front {x = x.x} {y = y.x} {p = z1.x} {q = z2.x} {z = z3.x} {xs = xs} {xs1 = x.rest} {xs2 = y.rest} {xs3 = c1.rest} {xs4 = z1.rest} {xs5 = c2.rest} {xs6 = z2.rest} {xs7 = c3.rest} {bs = z3.rest} x.same y.same c1.same z1.same c2.same z2.same c3.same z3.same)
    (for_of x.x i.0 e.0 s.0 t.0, g.SpellsStatement.for_loop o x.x y.x z1.x z2.x z3.x e.1 i.0 e.0 s.0 t.0 c1.front c2.front c3.front z3.rest x.is y.is z1.is z2.is z3.is i.1 e.2 s.1 t.1)

pub made_return : (source : List ℕ) → Makes source (f.Statement false) (r.Return ∷ r.Semicolon ∷ [])
made_return source xs h =
    let x = key r.Return w.Return (r.Semicolon ∷ []) xs refl h in
    let z = final r.Semicolon w.Semicolon x.rest refl x.roles in
    made_at source (f.Statement false) xs (x.x ∷ z.x ∷ []) (cc (x.same, z.same)) (return_of x.x None, g.SpellsStatement.return_nothing x.x z.x x.is z.is)

pub made_return_value : (source : List ℕ) (a : List Role) → Makes source f.Expression a → Makes source (f.Statement false) (r.Return ∷ a ++ r.Semicolon ∷ [])
made_return_value source a m xs h =
    let x = key r.Return w.Return (a ++ r.Semicolon ∷ []) xs refl h in
    let c = cut a (r.Semicolon ∷ []) x.rest x.roles in
    let z = final r.Semicolon w.Semicolon c.rest refl c.roles in
    let e = m c.front c.fronts in
    made_at source (f.Statement false) xs (x.x ∷ c.front ++ z.x ∷ []) (cc (x.same, c.same, z.same)) (return_of x.x (Some e.0), g.SpellsStatement.return_value x.x z.x e.1 e.0 c.front x.is z.is e.2)

print_lexemes : (ys : List Lexeme) {a b c d e f g h : Lexeme} {xs xs1 xs2 xs3 xs4 xs5 xs6 xs7 xs8 : List Lexeme} → xs ≡ a ∷ xs1 → xs1 ≡ b ∷ xs2 → xs2 ≡ c ∷ xs3 → xs3 ≡ d ∷ xs4 → xs4 ≡ e ∷ xs5 → xs5 ≡ f ∷ xs6 → xs6 ≡ ys ++ xs7 → xs7 ≡ g ∷ xs8 → xs8 ≡ h ∷ []
    → xs ≡ a ∷ b ∷ c ∷ d ∷ e ∷ f ∷ ys ++ g ∷ h ∷ []
print_lexemes ys i j k l m n o p q = cc

pub made_print : (source : List ℕ) (a : List Role) → Makes source f.Expression a → Makes source (f.Statement false) (r.Name s.System ∷ r.Dot ∷ r.Name s.Out ∷ r.Dot ∷ r.Name s.Println ∷ r.Open ∷ a ++ r.Close ∷ r.Semicolon ∷ [])
made_print source a m xs h =
    let k1 = key (r.Name s.System) w.System (r.Dot ∷ r.Name s.Out ∷ r.Dot ∷ r.Name s.Println ∷ r.Open ∷ a ++ r.Close ∷ r.Semicolon ∷ []) xs refl h in
    let k2 = key r.Dot w.Dot (r.Name s.Out ∷ r.Dot ∷ r.Name s.Println ∷ r.Open ∷ a ++ r.Close ∷ r.Semicolon ∷ []) k1.rest refl k1.roles in
    let k3 = key (r.Name s.Out) w.Out (r.Dot ∷ r.Name s.Println ∷ r.Open ∷ a ++ r.Close ∷ r.Semicolon ∷ []) k2.rest refl k2.roles in
    let k4 = key r.Dot w.Dot (r.Name s.Println ∷ r.Open ∷ a ++ r.Close ∷ r.Semicolon ∷ []) k3.rest refl k3.roles in
    let k5 = key (r.Name s.Println) w.Println (r.Open ∷ a ++ r.Close ∷ r.Semicolon ∷ []) k4.rest refl k4.roles in
    let k6 = key r.Open w.Open (a ++ r.Close ∷ r.Semicolon ∷ []) k5.rest refl k5.roles in
    let c = cut a (r.Close ∷ r.Semicolon ∷ []) k6.rest k6.roles in
    let k7 = key r.Close w.Close (r.Semicolon ∷ []) c.rest refl c.roles in
    let k8 = final r.Semicolon w.Semicolon k7.rest refl k7.roles in
    let e = m c.front c.fronts in
    made_at source (f.Statement false) xs (k1.x ∷ k2.x ∷ k3.x ∷ k4.x ∷ k5.x ∷ k6.x ∷ c.front ++ k7.x ∷ k8.x ∷ []) (print_lexemes c.front {a = k1.x} {b = k2.x} {c = k3.x} {d = k4.x} {e = k5.x} {f = k6.x} {g = k7.x} {h = k8.x} {xs = xs} {xs1 = k1.rest} {xs2 = k2.rest} {xs3 = k3.rest} {xs4 = k4.rest} {xs5 = k5.rest} {xs6 = k6.rest} {xs7 = c.rest} {xs8 = k7.rest} k1.same k2.same k3.same k4.same k5.same k6.same c.same k7.same k8.same)
    (print_of k1.x e.0, g.SpellsStatement.print k1.x k2.x k3.x k4.x k5.x k6.x k7.x k8.x e.1 e.0 c.front k1.is k2.is k3.is k4.is k5.is k6.is k7.is k8.is e.2)
