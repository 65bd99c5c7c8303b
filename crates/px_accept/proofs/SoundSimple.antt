-- Simple statements: what a move pushes stands for what comes next.
use Rattle.std.proofs.Common.{◌≡◌, ◌≢◌, ℕ, false, List, [], ◌∷◌, ◌++◌, refl, sym, ap, ◌∙◌, subst, append_assoc}
use Rattle.px_accept.specs.declared.role.Spelling.{Spelling}
use Rattle.px_accept.specs.declared.role.Role.{Role}
use Rattle.px_accept.specs.declared.role.Role.TheVariants.{Name, Integral, Boolean, New, Value, Open, Close, OpenBracket, CloseBracket, Semicolon, Dot, Assign, Compound, Step}
use Rattle.px_accept.specs.declared.symbol.Position.{Position}
use Rattle.px_accept.specs.declared.symbol.Position.TheVariants.{Alone, Init, Update}
use Rattle.px_accept.specs.declared.symbol.Seen.{Seen}
use Rattle.px_accept.specs.declared.symbol.Seen.TheVariants.{Nothing, AfterNew, AfterNewName, AnArray, APrimary, AName, AField, AnElement, ACall, AValue}
use Rattle.px_accept.specs.declared.symbol.Symbol.TheVariants.{Simple}
use Rattle.px_accept.specs.Moves.{Move, Refuse, Pass, Push}
use Rattle.px_accept.specs.SimpleMoves.{simple_first, simple_new, simple_new_name, end_alone, end_init, end_update, simple_end, simple_array, simple_primary, simple_call, simple_element, simple_field, simple_name, simple}
use Rattle.px_accept.specs.Grammar as g
use Rattle.px_accept.specs.Grammar.{Spelled, Ending, begins_print}
use Rattle.px_accept.proofs.Steps.{same_print}
use Rattle.px_accept.proofs.Languages.{Is, AStatement, PositionIs, Fine, Extends, Sound, statement_at, position_at}

pub simple_dot : (f : Ending) (q : Position) (zs m r w : List Role) (s : Spelling) → zs ≡ Name s ∷ m → Extends (g.Postfix g.Field) q m r → Spelled (g.Postfix f) w → Fine q (w ++ Dot ∷ zs) → PositionIs q (w ++ Dot ∷ zs) r
simple_dot f q zs m r w s e c h = position_at q _ _ r (rw e (simp append_assoc)) (c (w ++ Dot ∷ Name s ∷ []) (g.dot f s w refl h))

pub simple_index : (f : Ending) (q : Position) (zs m l r w : List Role) → f ≢ g.Array → Is g.Expression zs m → m ≡ CloseBracket ∷ l → Extends (g.Postfix g.Element) q l r → Spelled (g.Postfix f) w → Fine q (w ++ OpenBracket ∷ zs) → PositionIs q (w ++ OpenBracket ∷ zs) r
simple_index f q zs m l r w ne i e c h = position_at q _ _ r (rw (i.same, e) (simp append_assoc)) (c (w ++ (OpenBracket ∷ i.roles ++ CloseBracket ∷ [])) (g.index f w i.roles refl ne h i.spelled))

simple_call_of_name : (q : Position) (zs m r w : List Role) (s : Spelling) → Is g.Expressions zs (Close ∷ m) → Extends (g.Postfix g.Call) q m r → w ≡ Name s ∷ [] → Fine q (w ++ Open ∷ zs) → PositionIs q (w ++ Open ∷ zs) r
simple_call_of_name q zs m r w s i c e = position_at q _ _ r (rw (e, i.same) (simp append_assoc)) (c (Name s ∷ (Open ∷ i.roles ++ Close ∷ [])) (g.own_call s (Open ∷ i.roles ++ Close ∷ []) refl (g.arguments i.roles refl i.spelled)))

-- a name alone, and a field, whichever it is
data Named : List Role → Type 0 where
  alone : {w : List Role} (s : Spelling) → w ≡ Name s ∷ [] → Named w

named_of : (w : List Role) → Spelled (g.Postfix g.OneName) w → Named w
named_of w (g.name s q) = alone s q

data Fielded : List Role → Type 0 where
  of : {w : List Role} (k : Ending) (s : Spelling) (a : List Role) → w ≡ a ++ Dot ∷ Name s ∷ [] → Spelled (g.Postfix k) a → Fielded w

fielded_of : (w : List Role) → Spelled (g.Postfix g.Field) w → Fielded w
fielded_of w (g.dot k s a q h) = of k s a q h

call_name : (q : Position) (zs m r w : List Role) → Named w → Is g.Expressions zs (Close ∷ m) → Extends (g.Postfix g.Call) q m r → Fine q (w ++ Open ∷ zs) → PositionIs q (w ++ Open ∷ zs) r
call_name q zs m r w (alone s e) i c = simple_call_of_name q zs m r w s i c e

call_field : (q : Position) (zs m r w : List Role) → Fielded w → Is g.Expressions zs (Close ∷ m) → Extends (g.Postfix g.Call) q m r → Fine q (w ++ Open ∷ zs) → PositionIs q (w ++ Open ∷ zs) r
call_field q zs m r w (of k s a e h) i c = position_at q _ _ r (rw (e, i.same) (simp append_assoc)) (c (a ++ (Dot ∷ Name s ∷ (Open ∷ i.roles ++ Close ∷ []))) (g.dot_call k s a (Open ∷ i.roles ++ Close ∷ []) refl h (g.arguments i.roles refl i.spelled)))

simple_value : (q : Position) (t : Role) (zs m r w : List Role) → ((b : List Role) → Spelled g.Expression b → Spelled g.SimpleStatement (w ++ t ∷ b)) → Is g.Expression zs m → Extends g.SimpleStatement q m r → Fine q (w ++ t ∷ zs) → PositionIs q (w ++ t ∷ zs) r
simple_value q t zs m r w f i c = position_at q _ _ r (rw i.same (simp append_assoc)) (c (w ++ t ∷ i.roles) (f i.roles i.spelled))

compound_of : (w b : List Role) → Named w → Spelled g.Expression b → Spelled g.SimpleStatement (w ++ Compound ∷ b)
compound_of w b (alone s e) h = g.compound s b (rw e refl) h

stepped_of : (w : List Role) → Named w → Spelled g.SimpleStatement (w ++ Step ∷ [])
stepped_of w (alone s e) = g.stepped s (rw e refl)

close_alone : (w zs : List Role) → Spelled g.SimpleStatement w → begins_print (w ++ Semicolon ∷ zs) ≡ false → AStatement (w ++ Semicolon ∷ zs) zs
close_alone w zs h f = record { ends_open = false; roles = w ++ Semicolon ∷ []; same = sym (append_assoc w (Semicolon ∷ []) zs); spelled = g.simple w refl (sym (same_print w zs) ∙ ap begins_print (append_assoc w (Semicolon ∷ []) zs) ∙ f) h }

end_alone_sound : (n : ℕ) (t : Role) → Sound (end_alone n t) (Simple AValue Alone n) t
end_alone_sound n Semicolon = λ zs r c w h f. statement_at _ _ r (rw c refl) (close_alone w r h (subst (λ (us : List Role). begins_print (w ++ Semicolon ∷ us) ≡ false) c f))
end_alone_sound n t = tt

end_init_sound : (n : ℕ) (t : Role) → Sound (end_init n t) (Simple AValue Init n) t
end_init_sound n Semicolon = λ zs r c w h f. record { first = w; test = c.1.roles; mid = c.2.0; same = rw (c.1.same, c.2.1) refl; spelled = g.init_simple h; tested = c.1.spelled; rest = c.2.2 tt }
end_init_sound n t = tt

end_update_sound : (n : ℕ) (t : Role) → Sound (end_update n t) (Simple AValue Update n) t
end_update_sound n Close = λ zs r c w h f. record { last = w; mid = zs; same = refl; spelled = h; inner = subst (λ (us : List Role). AStatement zs us) c.2 c.1 }
end_update_sound n t = tt

end_sound : (q : Position) (n : ℕ) (t : Role) → Sound (simple_end q n t) (Simple AValue q n) t
end_sound Alone n t = end_alone_sound n t
end_sound Init n t = end_init_sound n t
end_sound Update n t = end_update_sound n t

called_end : (m : Move) (q : Position) (n : ℕ) (t : Role) → Sound m (Simple AValue q n) t → Sound m (Simple ACall q n) t
called_end Refuse q n t h = tt
called_end Pass q n t h = λ zs w s f. h zs w (g.called s) f
called_end (Push xs) q n t h = λ zs r c w s f. h zs r c w (g.called s) f

array_sound : (q : Position) (n : ℕ) (t : Role) → Sound (simple_array q n t) (Simple AnArray q n) t
array_sound q n Dot = λ zs r c w h. simple_dot g.Array q zs c.0 r w c.1.0 c.1.1 c.2 h
array_sound q n t = tt

primary_sound : (q : Position) (n : ℕ) (t : Role) → Sound (simple_primary q n t) (Simple APrimary q n) t
primary_sound q n Dot = λ zs r c w h. simple_dot g.Primary q zs c.0 r w c.1.0 c.1.1 c.2 h
primary_sound q n OpenBracket = λ zs r c w h. simple_index g.Primary q zs c.0 c.2.0 r w (λ e. cc) c.1 c.2.1 c.2.2 h
primary_sound q n t = tt

call_sound : (q : Position) (n : ℕ) (t : Role) → Sound (simple_call q n t) (Simple ACall q n) t
call_sound q n Dot = λ zs r c w h. simple_dot g.Call q zs c.0 r w c.1.0 c.1.1 c.2 h
call_sound q n OpenBracket = λ zs r c w h. simple_index g.Call q zs c.0 c.2.0 r w (λ e. cc) c.1 c.2.1 c.2.2 h
call_sound q n t = called_end (simple_end q n t) q n t (end_sound q n t)

element_sound : (q : Position) (n : ℕ) (t : Role) → Sound (simple_element q n t) (Simple AnElement q n) t
element_sound q n Dot = λ zs r c w h. simple_dot g.Element q zs c.0 r w c.1.0 c.1.1 c.2 h
element_sound q n OpenBracket = λ zs r c w h. simple_index g.Element q zs c.0 c.2.0 r w (λ e. cc) c.1 c.2.1 c.2.2 h
element_sound q n Assign = λ zs r c w h. simple_value q Assign zs c.0 r w (λ b i. g.assign_element w b refl h i) c.1 c.2
element_sound q n t = tt

pub field_sound : (q : Position) (n : ℕ) (t : Role) → Sound (simple_field q n t) (Simple AField q n) t
field_sound q n Dot = λ zs r c w h. simple_dot g.Field q zs c.0 r w c.1.0 c.1.1 c.2 h
field_sound q n OpenBracket = λ zs r c w h. simple_index g.Field q zs c.0 c.2.0 r w (λ e. cc) c.1 c.2.1 c.2.2 h
field_sound q n Assign = λ zs r c w h. simple_value q Assign zs c.0 r w (λ b i. g.assign_field w b refl h i) c.1 c.2
field_sound q n Open = λ zs r c w h. call_field q zs c.0 r w (fielded_of w h) c.1 c.2
field_sound q n t = tt

pub name_sound : (q : Position) (n : ℕ) (t : Role) → Sound (simple_name q n t) (Simple AName q n) t
name_sound q n Dot = λ zs r c w h. simple_dot g.OneName q zs c.0 r w c.1.0 c.1.1 c.2 h
name_sound q n OpenBracket = λ zs r c w h. simple_index g.OneName q zs c.0 c.2.0 r w (λ e. cc) c.1 c.2.1 c.2.2 h
name_sound q n Assign = λ zs r c w h. simple_value q Assign zs c.0 r w (λ b i. g.assign_name w b refl h i) c.1 c.2
name_sound q n Compound = λ zs r c w h. simple_value q Compound zs c.0 r w (λ b i. compound_of w b (named_of w h) i) c.1 c.2
name_sound q n Open = λ zs r c w h. call_name q zs c.0 r w (named_of w h) c.1 c.2
name_sound q n Step = λ zs r c w h. position_at q _ _ r (sym (append_assoc w (Step ∷ []) zs)) (c (w ++ Step ∷ []) (stepped_of w (named_of w h)))
name_sound q n t = tt

pub group_first : (q : Position) (zs m l r : List Role) → Is g.Expression zs m → m ≡ Close ∷ l → Extends (g.Postfix g.Primary) q l r → Fine q (Open ∷ zs) → PositionIs q (Open ∷ zs) r
group_first q zs m l r i e c = position_at q _ _ r (rw (i.same, e) (simp append_assoc)) (c (Open ∷ i.roles ++ Close ∷ []) (g.group i.roles refl i.spelled))

pub first_sound : (q : Position) (n : ℕ) (t : Role) → Sound (simple_first q n t) (Simple Nothing q n) t
first_sound q n (Name s) = λ zs r c f. c (Name s ∷ []) (g.name s refl) f
first_sound q n Value = λ zs r c f. c (Value ∷ []) (g.value refl) f
first_sound q n Open = λ zs r c f. group_first q zs c.0 c.2.0 r c.1 c.2.1 c.2.2 f
first_sound q n New = λ zs r c f. c f
first_sound q n t = tt

new_length : (q : Position) (t : Role) (zs a b d r : List Role) → g.IsBase t → zs ≡ OpenBracket ∷ a → Is g.Expression a b → b ≡ CloseBracket ∷ d → Extends (g.Postfix g.Array) q d r → Fine q (New ∷ t ∷ zs) → PositionIs q (New ∷ t ∷ zs) r
new_length q t zs a b d r i e x y c = position_at q _ _ r (rw (e, x.same, y) (simp append_assoc)) (c (New ∷ t ∷ OpenBracket ∷ x.roles ++ CloseBracket ∷ []) (g.new_array t x.roles refl i x.spelled))

new_sound : (q : Position) (n : ℕ) (t : Role) → Sound (simple_new q n t) (Simple AfterNew q n) t
new_sound q n Integral = λ zs r c f. new_length q Integral zs c.0 c.2.0 c.2.2.0 r g.integral c.1 c.2.1 c.2.2.1 c.2.2.2 f
new_sound q n Boolean = λ zs r c f. new_length q Boolean zs c.0 c.2.0 c.2.2.0 r g.boolean c.1 c.2.1 c.2.2.1 c.2.2.2 f
new_sound q n (Name s) = λ zs r c f. c s f
new_sound q n t = tt

new_name_sound : (q : Position) (n : ℕ) (t : Role) → Sound (simple_new_name q n t) (Simple AfterNewName q n) t
new_name_sound q n Open = λ zs r c s f. position_at q _ _ r (rw c.1 refl) (c.2 (New ∷ Name s ∷ Open ∷ Close ∷ []) (g.new_object s refl)) f
new_name_sound q n OpenBracket = λ zs r c s f. new_length q (Name s) (OpenBracket ∷ zs) zs c.0 c.2.0 r (g.IsBase.named s) refl c.1 c.2.1 c.2.2 f
new_name_sound q n t = tt

pub simple_sound : (k : Seen) (q : Position) (n : ℕ) (t : Role) → Sound (simple k q n t) (Simple k q n) t
simple_sound Nothing q n t = first_sound q n t
simple_sound AfterNew q n t = new_sound q n t
simple_sound AfterNewName q n t = new_name_sound q n t
simple_sound AnArray q n t = array_sound q n t
simple_sound APrimary q n t = primary_sound q n t
simple_sound AName q n t = name_sound q n t
simple_sound AField q n t = field_sound q n t
simple_sound AnElement q n t = element_sound q n t
simple_sound ACall q n t = call_sound q n t
simple_sound AValue q n t = end_sound q n t
