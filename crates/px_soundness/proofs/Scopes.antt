-- The locals in scope, as the rules and as the facts have them.
use Rattle.std.proofs.Common.{◌≡◌, ◌≤◌, ◌<◌, ℕ, zero, suc, ◌+◌, Bool, true, false, cond, List, [], ◌∷◌, ◌++◌, map, length, take, Option, Some, None, slice_get, if◌then◌else◌, refl, sym, ap, ◌∙◌, subst, arith}
use Rattle.std.specs.Prelude.{nat_lt, min}
use Rattle.std.specs.Option.{option_map}
use Rattle.std.specs.List.{position_from}
use Rattle.std.proofs.lemmas.Bool.{ltb-true, le-ltb}
use Rattle.std.proofs.lemmas.List.{take-map, length-take, length-take-le}
use Rattle.std.proofs.lemmas.Option.{slice_get-map}
use Rattle.std.proofs.lemmas.Iterator.Adapters.{position_from-zero}
use Rattle.std.specs.Str.{bytes_eq}
use Rattle.px_tree.specs.declared.Name.{Name}
use Rattle.px_facts.specs.declared.types.Ty.{Ty}
use Rattle.px_facts.specs.declared.types.Ty.TheVariants as ty
use Rattle.px_facts.specs.declared.checked.Named.{Named}
use Rattle.px_facts.specs.declared.checked.Facts.{Facts}
use Rattle.px_facts.specs.Types.{is_unknown}
use Rattle.px_facts.specs.declared.checked.Fact.{Fact}
use Rattle.px_types.specs.declared.table.Table.{Table}
use Rattle.px_types.specs.declared.classes.FieldType.{FieldType}
use Rattle.px_types.specs.declared.classes.Classes.{Classes}
use Rattle.px_types.specs.declared.locals.Locals.{Locals}
use Rattle.px_types.specs.declared.scope.Slot.{Slot}
use Rattle.px_types.specs.declared.scope.Scope.{Scope}
use Rattle.px_types.specs.Names.{place_of, value_at, has_name, declare}
use Rattle.px_types.specs.Members.{field_of}
use Rattle.px_types.specs.Scopes.{with_local, left, usable_type, local_type, own_field, shadowed, variable_type}
use Rattle.px_types.specs.Slots.{with_slot, next_slot, slot_of, closed}
use Rattle.px_types.specs.Expressions.{found_type}
use Rattle.px_types.specs.Facts.{local_fact, field_fact, field_at, local_or, variable_fact}
use Rattle.px_types.specs.declared.home.Home.{Home}
use Rattle.px_types.specs.declared.context.Context.{Context}
use Rattle.px_mean.specs.Typing.{IsVariable}
use Rattle.px_soundness.proofs.Premises.{MembersStand, home as home_in, context as context_in, VariableStands, Sees}
use Rattle.px_soundness.proofs.Clean.{some_is}

-- ---- places in lists

pub get_before : {A : Type 0} (xs ys : List A) (q : ℕ) → q < length xs → slice_get (xs ++ ys) q ≡ slice_get xs q
get_before [] ys q h = absurd (omega (arith, h))
get_before (x ∷ xs) ys zero h = refl
get_before (x ∷ xs) ys (suc q) h = get_before xs ys q (omega (arith, h))

pub get_seam : {A : Type 0} (xs ys : List A) (y : A) → slice_get (xs ++ y ∷ ys) (length xs) ≡ Some y
get_seam [] ys y = refl
get_seam (x ∷ xs) ys y = get_seam xs ys y

-- the place of a name, where one more stands last
data Push (before after : Option ℕ) (last : ℕ) : Type 0 where
  same : before ≡ after → Push before after last
  at_last : after ≡ Some last → Push before after last

push_last : (b : Bool) (i last : ℕ) → last ≡ i → Push None (cond b (Some i) None) last
push_last true i last e = Push.at_last (ap Some (sym e))
push_last false i last e = Push.same refl

push_more : (b : Bool) (i last : ℕ) (before after : Option ℕ) → Push before after last → Push (cond b (Some i) before) (cond b (Some i) after) last
push_more true i last before after p = Push.same refl
push_more false i last before after p = p

push_from : {K : Type 0} (p : K → Bool) (i last : ℕ) (xs : List K) (x : K) → last ≡ i + length xs → Push (position_from p i xs) (position_from p i (xs ++ x ∷ [])) last
push_from p i last [] x e = push_last (p x) i last (omega (arith, e))
push_from p i last (y ∷ xs) x e = push_more (p y) i last (position_from p (i + 1) xs) (position_from p (i + 1) (xs ++ x ∷ [])) (push_from p (i + 1) last xs x (omega (arith, e)))

push_name : (name new : List ℕ) (names : List (List ℕ)) → Push (place_of name names) (place_of name (names ++ new ∷ [])) (length names)
push_name name new names =
    subst (λ (o : Option ℕ). Push o (place_of name (names ++ new ∷ [])) (length names)) (sym (position_from-zero (bytes_eq name) names))
    (subst (λ (o : Option ℕ). Push (position_from (bytes_eq name) 0 names) o (length names)) (sym (position_from-zero (bytes_eq name) (names ++ new ∷ []))) (push_from (bytes_eq name) 0 (length names) names new (omega arith)))

pub declare_fresh : {V : Type 0} (name : List ℕ) (v : V) (table : Table V) → has_name name table.names ≡ false → declare name v table ≡ record { names = table.names ++ name ∷ []; values = table.values ++ v ∷ [] }
declare_fresh name v table h = ap (λ (b : Bool). if b then table else record { names = table.names ++ name ∷ []; values = table.values ++ v ∷ [] }) h

pub length_push : {A : Type 0} (xs : List A) (x : A) → length (xs ++ x ∷ []) ≡ length xs + 1
length_push [] x = refl
length_push (y ∷ xs) x = let h : length (xs ++ x ∷ []) ≡ length xs + 1 = length_push xs x in omega (arith, h)

map_push : {A B : Type 0} (f : A → B) (xs : List A) (x : A) → map f (xs ++ x ∷ []) ≡ map f xs ++ f x ∷ []
map_push f [] x = refl
map_push f (y ∷ xs) x = ap (λ ys. f y ∷ ys) (map_push f xs x)

abbrev ty_of : Slot → Ty
ty_of v = v.ty

module _ (F : Facts) (slots : List Ty) (classes : Classes) (firsts : List ℕ) (this : ℕ) (result : Ty) (members : MembersStand F classes firsts) where
  abbrev H : Home
  H = home_in F slots classes firsts this result members

  abbrev C : Context
  C = context_in F slots classes firsts this result members

  abbrev Sight : Locals → Scope → Type 0
  Sight l s = Sees F slots classes firsts this result members l s

  abbrev pub SlotStands : Slot → Type 0
  SlotStands v = (slice_get slots v.number ≡ Some v.ty) × (is_unknown v.ty ≡ false)

  abbrev pub AllStand : List Slot → Type 0
  AllStand [] = Unit {0}
  AllStand (v ∷ vs) = SlotStands v × AllStand vs

  stand_at : (vs : List Slot) (q : ℕ) (v : Slot) → AllStand vs → slice_get vs q ≡ Some v → SlotStands v
  stand_at [] q v h e = absurd (cc e)
  stand_at (w ∷ vs) zero v h e = subst SlotStands (some_is e) h.0
  stand_at (w ∷ vs) (suc q) v h e = stand_at vs q v h.1 e

  stand_take : (n : ℕ) (vs : List Slot) → AllStand vs → AllStand (take n vs)
  stand_take zero vs h = tt
  stand_take (suc n) [] h = tt
  stand_take (suc n) (v ∷ vs) h = (h.0, stand_take n vs h.1)

  stand_push : (vs : List Slot) (v : Slot) → AllStand vs → SlotStands v → AllStand (vs ++ v ∷ [])
  stand_push [] v h k = (k, tt)
  stand_push (w ∷ vs) v h k = (h.0, stand_push vs v h.1 k)

  -- the same names in scope, of the same types, each with a slot of its type
  pub record Matches (l : Table Ty) (s : Scope) : Type 0 where
    pub names : l.names ≡ s.locals.names
    pub types : l.values ≡ map ty_of s.locals.values
    pub counts : length l.names ≡ length l.values
    pub stand : AllStand s.locals.values

  -- and all may be used
  pub record Agrees (l : Locals) (s : Scope) : Type 0 where
    pub matches : Matches l.table s
    pub usable : l.usable ≡ length l.table.names

  -- ---- variables

  slot_type : (found : Option Slot) (u : Ty) → option_map ty_of found ≡ Some u → (v : Slot) × (found ≡ Some v) × (v.ty ≡ u)
  slot_type None u h = absurd (cc h)
  slot_type (Some v) u h = (v, refl, cc h)

  pub record LocalStands (s : Scope) (name : List ℕ) (u : Ty) : Type 0 where
    pub slot : Slot
    pub found : slot_of name s ≡ Some slot
    pub type_is : slot.ty ≡ u
    pub stands : slice_get slots slot.number ≡ Some u
    pub known : is_unknown u ≡ false

  within : (b : Bool) (o : Option Ty) (u : Ty) → (if b then o else None) ≡ Some u → (b ≡ true) × (o ≡ Some u)
  within true o u h = (refl, h)
  within false o u h = absurd (cc h)

  local_at : (l : Table Ty) (s : Scope) (name : List ℕ) (q : ℕ) (u : Ty) → Matches l s → place_of name l.names ≡ Some q → slice_get l.values q ≡ Some u → LocalStands s name u
  local_at l s name q u m p e =
      let v = slot_type (slice_get s.locals.values q) u (sym (slice_get-map ty_of s.locals.values q) ∙ ap (λ (xs : List Ty). slice_get xs q) (sym m.types) ∙ e) in
      let st = stand_at s.locals.values q v.0 m.stand v.1 in
      record {
        slot = v.0;
        found = ap (λ (o : Option ℕ). value_at o s.locals.values) (ap (place_of name) (sym m.names) ∙ p) ∙ v.1;
        type_is = v.2;
        stands = st.0 ∙ ap Some v.2;
        known = subst (λ (z : Ty). is_unknown z ≡ false) v.2 st.1;
      }

  local_by : (l : Locals) (s : Scope) (name : List ℕ) (u : Ty) (place : Option ℕ) → Matches l.table s → place_of name l.table.names ≡ place → usable_type place l ≡ Some u → LocalStands s name u
  local_by l s name u None m p e = absurd (cc e)
  local_by l s name u (Some q) m p e = local_at l.table s name q u m p (within (nat_lt q l.usable) (slice_get l.table.values q) u e).1

  pub local_stands : (l : Locals) (s : Scope) (name : List ℕ) (u : Ty) → Agrees l s → local_type name l ≡ Some u → LocalStands s name u
  local_stands l s name u a e = local_by l s name u (place_of name l.table.names) a.matches refl e

  field_type : (found : Option FieldType) (u : Ty) → option_map (λ (f : FieldType). f.ty) found ≡ Some u → (f : FieldType) × (found ≡ Some f) × (f.ty ≡ u)
  field_type None u h = absurd (cc h)
  field_type (Some f) u h = (f, refl, cc h)

  local_variable : (s : Scope) (name : List ℕ) (u : Ty) → LocalStands s name u → VariableStands F slots classes firsts this result members s name u
  local_variable s name u k =
      let e : variable_fact H s name ≡ local_fact k.slot.ty k.slot.number = ap (λ (o : Option Slot). local_or o (field_fact H (ty.Object this) name)) k.found in
      record {
        type_is = ap (λ (f : Fact). f.ty) e ∙ k.type_is;
        variable = subst (λ (n : Named). IsVariable F slots n u) (sym (ap (λ (f : Fact). f.named) e)) (IsVariable.local k.slot.number u k.stands);
        known = k.known;
      }

  field_variable : (s : Scope) (name : List ℕ) (u : Ty) → slice_get slots 0 ≡ Some (ty.Object this) → slot_of name s ≡ None → own_field C name ≡ Some u → VariableStands F slots classes firsts this result members s name u
  field_variable s name u this_is none e =
      let f = field_type (field_of (ty.Object this) name classes) u e in
      let st = members.fields this name f.0 f.1 in
      let v : variable_fact H s name ≡ field_fact H (ty.Object this) name = ap (λ (o : Option Slot). local_or o (field_fact H (ty.Object this) name)) none in
      record {
        type_is = ap (λ (f : Fact). f.ty) v ∙ ap found_type f.1 ∙ f.2;
        variable = subst (λ (n : Named). IsVariable F slots n u) (sym (ap (λ (f : Fact). f.named) v ∙ ap (field_at (ty.Object this)) st.place_is)) (IsVariable.field this st.place u this_is (st.type_is ∙ ap Some f.2));
        known = subst (λ (z : Ty). is_unknown z ≡ false) f.2 st.known;
      }

  variable_by : (l : Locals) (s : Scope) (name : List ℕ) (u : Ty) (place : Option ℕ) → slice_get slots 0 ≡ Some (ty.Object this) → Matches l.table s → place_of name l.table.names ≡ place → shadowed place l (own_field C name) ≡ Some u → VariableStands F slots classes firsts this result members s name u
  variable_by l s name u None this_is m p e = field_variable s name u this_is (ap (λ (o : Option ℕ). value_at o s.locals.values) (ap (place_of name) (sym m.names) ∙ p)) e
  variable_by l s name u (Some q) this_is m p e = local_variable s name u (local_by l s name u (Some q) m p e)

  pub agreeing_sees : (l : Locals) (s : Scope) → slice_get slots 0 ≡ Some (ty.Object this) → Agrees l s → Sight l s
  agreeing_sees l s this_is a = record { this_is = this_is; variables = λ name u e. variable_by l s name u (place_of name l.table.names) this_is a.matches refl e }

  -- ---- one more local

  abbrev pushed : List ℕ → Ty → Table Ty → Table Ty
  pushed name u table = record { names = table.names ++ name ∷ []; values = table.values ++ u ∷ [] }

  abbrev slot_pushed : List ℕ → Ty → Scope → Scope
  slot_pushed name u s = record { locals = record { names = s.locals.names ++ name ∷ []; values = s.locals.values ++ next_slot u s ∷ [] }; slots = s.slots ++ u ∷ [] }

  pushed_matches : (table : Table Ty) (s : Scope) (name : List ℕ) (u : Ty) → Matches table s → slice_get slots (length s.slots) ≡ Some u → is_unknown u ≡ false → Matches (pushed name u table) (slot_pushed name u s)
  pushed_matches table s name u m e k = record {
    names = ap (λ ns. ns ++ name ∷ []) m.names;
    types = ap (λ us. us ++ u ∷ []) m.types ∙ sym (map_push ty_of s.locals.values (next_slot u s));
    counts = length_push table.names name ∙ ap (λ n. n + 1) m.counts ∙ sym (length_push table.values u);
    stand = stand_push s.locals.values (next_slot u s) m.stand (e, k);
  }

  pub declared_matches : (table : Table Ty) (s : Scope) (name : List ℕ) (u : Ty) → Matches table s → has_name name table.names ≡ false → slice_get slots (length s.slots) ≡ Some u → is_unknown u ≡ false → Matches (declare name u table) (with_slot name u s)
  declared_matches table s name u m fresh e k =
      let f : declare name (next_slot u s) s.locals ≡ record { names = s.locals.names ++ name ∷ []; values = s.locals.values ++ next_slot u s ∷ [] } = declare_fresh name (next_slot u s) s.locals (ap (has_name name) (sym m.names) ∙ fresh) in
      subst (λ (x : Table Ty). Matches x (with_slot name u s)) (sym (declare_fresh name u table fresh))
      (subst (λ (x : Table Slot). Matches (pushed name u table) (record { locals = x; slots = s.slots ++ u ∷ [] })) (sym f) (pushed_matches table s name u m e k))

  -- the last one may not be used yet
  unused : (l : Locals) (name new : List ℕ) (u v : Ty) (before after : Option ℕ) → l.usable ≡ length l.table.names → length l.table.names ≡ length l.table.values → Push before after (length l.table.names)
      → shadowed after (record { table = pushed new u l.table; usable = l.usable }) (own_field C name) ≡ Some v → shadowed before l (own_field C name) ≡ Some v
  unused l name new u v before None e c (Push.same p) h = ap (λ (o : Option ℕ). shadowed o l (own_field C name)) p ∙ h
  unused l name new u v before (Some q) e c (Push.same p) h =
      let i = within (nat_lt q l.usable) (slice_get (l.table.values ++ u ∷ []) q) v h in
      ap (λ (o : Option ℕ). shadowed o l (own_field C name)) p ∙ ap (λ (b : Bool). if b then slice_get l.table.values q else None) i.0 ∙ sym (get_before l.table.values (u ∷ []) q (subst (λ (k : ℕ). q < k) (e ∙ c) (ltb-true q l.usable i.0))) ∙ i.1
  unused l name new u v before after e c (Push.at_last p) h =
      absurd (cc (sym (ap (λ (o : Option ℕ). shadowed o (record { table = pushed new u l.table; usable = l.usable }) (own_field C name)) p ∙ ap (λ (b : Bool). if b then slice_get (l.table.values ++ u ∷ []) (length l.table.names) else None) (ap (nat_lt (length l.table.names)) e ∙ le-ltb (length l.table.names) (length l.table.names) (omega arith))) ∙ h))

  pub initialiser_sees : (l : Locals) (s : Scope) (name : Name) (u : Ty) → slice_get slots 0 ≡ Some (ty.Object this) → Agrees l s → has_name name.bytes l.table.names ≡ false → Sight (with_local name u l) s
  initialiser_sees l s name u this_is a fresh =
      let sees = agreeing_sees l s this_is a in
      record {
        this_is = this_is;
        variables = λ n v e. sees.variables n v (unused l n name.bytes u v (place_of n l.table.names) (place_of n (l.table.names ++ name.bytes ∷ [])) a.usable a.matches.counts (push_name n name.bytes l.table.names)
            (sym (ap (λ (x : Table Ty). variable_type C (record { table = x; usable = l.usable }) n) (declare_fresh name.bytes u l.table fresh)) ∙ e));
      }

  -- ---- the end of a scope

  pub left_agrees : (outer inner : Locals) (s t : Scope) → Agrees outer s → Agrees inner t → length outer.table.names ≤ length inner.table.names → Agrees (left outer inner) (closed s t)
  left_agrees outer inner s t a b le =
      let n = length outer.table.names in
      let e : n ≡ length s.locals.names = ap length a.matches.names in
      let m = b.matches in
      record {
        matches = record {
          names = ap (take n) m.names ∙ ap (λ (k : ℕ). take k t.locals.names) e;
          types = ap (take n) m.types ∙ take-map ty_of n t.locals.values ∙ ap (λ (k : ℕ). map ty_of (take k t.locals.values)) e;
          counts = length-take n inner.table.names ∙ ap (min n) m.counts ∙ sym (length-take n inner.table.values);
          stand = stand_take (length s.locals.names) t.locals.values m.stand;
        };
        usable = a.usable ∙ sym (length-take-le n inner.table.names le);
      }
