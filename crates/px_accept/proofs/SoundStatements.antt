-- Statements: what a move pushes stands for what comes next.
use Rattle.std.proofs.Common.{◌≡◌, inl, inr, Bool, true, false, List, [], ◌∷◌, ◌++◌, refl, sym, subst, append_assoc}
use Rattle.px_accept.specs.declared.role.Spelling.{Spelling}
use Rattle.px_accept.specs.declared.role.Spelling.TheVariants.{Create, Table, Column, System, Out, Println, SqlException, Plain}
use Rattle.px_accept.specs.declared.role.Role.{Role}
use Rattle.px_accept.specs.declared.role.Role.TheVariants.{Name, If, Else, While, For, Return, New, Value, OpenBrace, CloseBrace, Open, Close, Semicolon}
use Rattle.px_accept.specs.declared.symbol.Position.TheVariants.{Alone}
use Rattle.px_accept.specs.declared.symbol.Symbol.TheVariants.{Need, Otherwise, Returned, Expression}
use Rattle.px_accept.specs.declared.symbol.Symbol.TheVariants as y
use Rattle.px_accept.specs.Moves.{before}
use Rattle.px_accept.specs.ExpressionMoves.{operand}
use Rattle.px_accept.specs.StatementMoves.{named_statement, statement, returned, otherwise}
use Rattle.px_accept.specs.Grammar as g
use Rattle.px_accept.specs.Grammar.{Form, Spelled}
use Rattle.px_accept.proofs.Languages.{Is, AStatement, InitPart, Lang, Sound, sound_before}
use Rattle.px_accept.proofs.SoundExpressions.{expression_sound, operand_moves}
use Rattle.px_accept.proofs.SoundSimple.{group_first}

spelled_at : (f : Form) (ts us : List Role) → ts ≡ us → Spelled f us → Spelled f ts
spelled_at f ts us e h = subst (λ (ws : List Role). Spelled f ws) (sym e) h

-- an `else` behind a statement that ends in an open `if` goes to that `if`
attach : (b c : List Role) (o : Bool) → Spelled (g.Statement true) b → Spelled (g.Statement o) c → (x : Bool) × Spelled (g.Statement x) (b ++ Else ∷ c)
attach b c o (g.if_alone false a d q r s) h = (o, spelled_at (g.Statement o) _ _ (rw q (simp append_assoc)) (g.if_else o a d c refl r s h))
attach b c o (g.if_alone true a d q r s) h = let i = attach d c o s h in (true, spelled_at (g.Statement true) _ _ (rw q (simp append_assoc)) (g.if_alone i.0 a (d ++ Else ∷ c) refl r i.1))
attach b c o (g.if_else _ a d e q r s u) h = let i = attach e c o u h in (i.0, spelled_at (g.Statement i.0) _ _ (rw q (simp append_assoc)) (g.if_else i.0 a d (e ++ Else ∷ c) refl r s i.1))
attach b c o (g.while_loop _ a d q r s) h = let i = attach d c o s h in (i.0, spelled_at (g.Statement i.0) _ _ (rw q (simp append_assoc)) (g.while_loop i.0 a (d ++ Else ∷ c) refl r i.1))
attach b c o (g.for_loop _ a d e l q r s u w) h = let i = attach l c o w h in (i.0, spelled_at (g.Statement i.0) _ _ (rw q (simp append_assoc)) (g.for_loop i.0 a d e (l ++ Else ∷ c) refl r s u i.1))

with_else : (p o : Bool) (a b c : List Role) → Spelled g.Expression a → Spelled (g.Statement p) b → Spelled (g.Statement o) c → (x : Bool) × Spelled (g.Statement x) (If ∷ Open ∷ a ++ (Close ∷ b ++ Else ∷ c))
with_else false o a b c h s u = (o, g.if_else o a b c refl h s u)
with_else true o a b c h s u = let i = attach b c o s u in (true, g.if_alone i.0 a (b ++ Else ∷ c) refl h i.1)

if_of : (zs a b d e r : List Role) → zs ≡ Open ∷ a → Is g.Expression a b → b ≡ Close ∷ d → AStatement d e → Lang Otherwise e r → AStatement (If ∷ zs) r
if_of zs a b d e r p i q s o =
    elim o [
      | inl f ↦ record { ends_open = true; roles = If ∷ Open ∷ i.roles ++ (Close ∷ s.roles); same = rw (p, i.same, q, s.same, f) (simp append_assoc); spelled = g.if_alone s.ends_open i.roles s.roles refl i.spelled s.spelled }
      | inr f ↦
          let w = with_else s.ends_open f.2.ends_open i.roles s.roles f.2.roles i.spelled s.spelled f.2.spelled in
          record { ends_open = w.0; roles = If ∷ Open ∷ i.roles ++ (Close ∷ s.roles ++ Else ∷ f.2.roles); same = rw (p, i.same, q, s.same, f.1, f.2.same) (simp append_assoc); spelled = w.1 }
    ]

while_of : (zs a b d r : List Role) → zs ≡ Open ∷ a → Is g.Expression a b → b ≡ Close ∷ d → AStatement d r → AStatement (While ∷ zs) r
while_of zs a b d r p i q s = record { ends_open = s.ends_open; roles = While ∷ Open ∷ i.roles ++ (Close ∷ s.roles); same = rw (p, i.same, q, s.same) (simp append_assoc); spelled = g.while_loop s.ends_open i.roles s.roles refl i.spelled s.spelled }

for_of : (zs a r : List Role) → zs ≡ Open ∷ a → InitPart a r → AStatement (For ∷ zs) r
for_of zs a r p f = record {
  ends_open = f.rest.inner.ends_open;
  roles = For ∷ Open ∷ f.first ++ (Semicolon ∷ f.test ++ (Semicolon ∷ f.rest.last ++ (Close ∷ f.rest.inner.roles)));
  same = rw (p, f.same, f.rest.same, f.rest.inner.same) (simp append_assoc);
  spelled = g.for_loop f.rest.inner.ends_open f.first f.test f.rest.last f.rest.inner.roles refl f.spelled f.tested f.rest.spelled f.rest.inner.spelled;
}

pub block_of : (zs r : List Role) → Is g.ItemList zs (CloseBrace ∷ r) → Is g.Block (OpenBrace ∷ zs) r
block_of zs r i = record { roles = OpenBrace ∷ i.roles ++ CloseBrace ∷ []; same = rw i.same (simp append_assoc); spelled = g.block i.roles refl i.spelled }

ends_at : (zs m r : List Role) → m ≡ r → AStatement zs m → AStatement zs r
ends_at zs m r e s = subst (λ (us : List Role). AStatement zs us) e s

named_statement_sound : (s : Spelling) → Sound (named_statement s) y.Statement (Name s)
named_statement_sound System = λ zs r c. c
named_statement_sound Create = λ zs r c. c (Name Create ∷ []) (g.name Create refl) refl
named_statement_sound Table = λ zs r c. c (Name Table ∷ []) (g.name Table refl) refl
named_statement_sound Column = λ zs r c. c (Name Column ∷ []) (g.name Column refl) refl
named_statement_sound Out = λ zs r c. c (Name Out ∷ []) (g.name Out refl) refl
named_statement_sound Println = λ zs r c. c (Name Println ∷ []) (g.name Println refl) refl
named_statement_sound SqlException = λ zs r c. c (Name SqlException ∷ []) (g.name SqlException refl) refl
named_statement_sound Plain = λ zs r c. c (Name Plain ∷ []) (g.name Plain refl) refl

pub statement_sound : (t : Role) → Sound (statement t) y.Statement t
statement_sound OpenBrace = λ zs r c. let i = block_of zs c.0 c.1 in ends_at _ c.0 r c.2 (record { ends_open = false; roles = i.roles; same = i.same; spelled = g.statement_block i.spelled })
statement_sound Semicolon = λ zs r c. record { ends_open = false; roles = Semicolon ∷ []; same = rw c refl; spelled = g.empty refl }
statement_sound If = λ zs r c. ends_at _ c.2.2.2.2.0 r c.2.2.2.2.2 (if_of zs c.0 c.2.0 c.2.2.0 c.2.2.2.0 c.2.2.2.2.0 c.1 c.2.1 c.2.2.1 c.2.2.2.1 c.2.2.2.2.1)
statement_sound While = λ zs r c. ends_at _ c.2.2.2.0 r c.2.2.2.2 (while_of zs c.0 c.2.0 c.2.2.0 c.2.2.2.0 c.1 c.2.1 c.2.2.1 c.2.2.2.1)
statement_sound For = λ zs r c. for_of zs c.0 r c.1 c.2
statement_sound Return = λ zs r c. ends_at _ c.0 r c.2 c.1
statement_sound (Name s) = named_statement_sound s
statement_sound Value = λ zs r c. c (Value ∷ []) (g.value refl) refl
statement_sound Open = λ zs r c. group_first Alone zs c.0 c.2.0 r c.1 c.2.1 c.2.2 refl
statement_sound New = λ zs r c. c refl
statement_sound t = tt

pub otherwise_sound : (t : Role) → Sound (otherwise t) Otherwise t
otherwise_sound Else = λ zs r c. inr (zs, refl, c)
otherwise_sound t = λ zs. inl refl

return_of : (t : Role) → Sound (before (operand 1 0 t) (Need Semicolon ∷ [])) Returned t
return_of t = sound_before (operand 1 0 t) (Need Semicolon ∷ []) Expression Returned t (operand_moves 1 0 t) (expression_sound t) (λ zs mid r i c.
    record { ends_open = false; roles = Return ∷ i.roles ++ Semicolon ∷ []; same = rw (i.same, c) (simp append_assoc); spelled = g.return_value i.roles refl i.spelled })

pub returned_sound : (t : Role) → Sound (returned t) Returned t
returned_sound Semicolon = λ zs r c. record { ends_open = false; roles = Return ∷ Semicolon ∷ []; same = rw c refl; spelled = g.return_alone refl }
returned_sound t = return_of t
