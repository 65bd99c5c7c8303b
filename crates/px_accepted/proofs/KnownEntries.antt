-- The methods of an accepted program stand where their numbers say, and the public ones of the class Main are its entries.
use Rattle.std.proofs.Common.{◌≡◌, ◌<◌, ℕ, zero, suc, ◌+◌, Bool, true, false, List, [], ◌∷◌, ◌++◌, map, length, drop, Option, Some, codes, slice_get, unwrap_or, if◌then◌else◌, refl, sym, ap, ◌∙◌, subst, arith}
use Rattle.std.specs.Str.{bytes_eq}
use Rattle.std.proofs.lemmas.Bool.{true≢false}
use Rattle.std.proofs.lemmas.List.{length-map}
use Rattle.std.proofs.lemmas.Option.{slice_get_within}
use Rattle.px_tree.specs.declared.Access.{Access}
use Rattle.px_tree.specs.declared.Access.TheVariants as access
use Rattle.px_tree.specs.declared.Method.{Method}
use Rattle.px_tree.specs.declared.Member.{Member}
use Rattle.px_tree.specs.declared.Member.TheVariants as member
use Rattle.px_tree.specs.declared.Class.{Class}
use Rattle.px_facts.specs.declared.checked.MethodFact.{MethodFact}
use Rattle.px_facts.specs.declared.checked.Entry.{Entry}
use Rattle.px_facts.specs.declared.checked.Main.{Main}
use Rattle.px_types.specs.declared.table.Table.{Table}
use Rattle.px_types.specs.declared.classes.Classes.{Classes}
use Rattle.px_types.specs.declared.home.Home.{Home}
use Rattle.px_types.specs.Members.{class_members}
use Rattle.px_types.specs.Programs.{entries, main_notes}
use Rattle.px_types.specs.Bodies.{firsts_from, method_known, all_found}
use Rattle.px_types.specs.Entries.{entry_of, entry_if, entries_from, first_method, main_from}
use Rattle.px_mean.specs.Program.{methods_in, methods_of}
use Rattle.px_lowering.specs.Programs.{is_public}
use Rattle.px_soundness.proofs.Clean.{Clean, some_is}
use Rattle.px_soundness.proofs.Standing.{first_in_drop, rest_in_drop, add_one}
use Rattle.px_soundness.proofs.Programs.{get_behind, methods_found, AllProper}
use Rattle.px_soundness.proofs.Scopes.{get_before}

-- ---- places in two lists

data Place {A : Type 0} (xs : List A) (k : ℕ) : Type 0 where
  inside : k < length xs → Place xs k
  behind : (j : ℕ) → k ≡ length xs + j → Place xs k

place_in : {A : Type 0} (xs : List A) (k : ℕ) → Place xs k
place_in [] k = Place.behind k (omega arith)
place_in (x ∷ xs) zero = Place.inside (omega arith)
place_in (x ∷ xs) (suc k) = later (place_in xs k)
  where
    later : Place xs k → Place (x ∷ xs) (suc k)
    later (Place.inside h) = Place.inside (omega (arith, h))
    later (Place.behind j h) = Place.behind j (omega (arith, h))

got_map : {A B : Type 0} (g : A → B) (xs : List A) (k : ℕ) (x : A) (y : B) → slice_get xs k ≡ Some x → slice_get (map g xs) k ≡ Some y → g x ≡ y
got_map g [] k x y h i = absurd (cc h)
got_map g (z ∷ xs) zero x y h i = ap g (sym (some_is h)) ∙ some_is i
got_map g (z ∷ xs) (suc k) x y h i = got_map g xs k x y h i

plus_none : (n : ℕ) → n ≡ n + 0
plus_none n = omega arith

none_plus : (n : ℕ) → 0 + n ≡ n
none_plus n = omega arith

one_plus : (n : ℕ) → 1 + n ≡ suc n
one_plus n = omega arith

one_more : (a b : ℕ) → (a + 1) + b ≡ a + suc b
one_more a b = omega arith

together : (a b c : ℕ) → (a + b) + c ≡ a + (b + c)
together a b c = omega arith

one_together : (a b : ℕ) → (1 + a) + b ≡ suc (a + b)
one_together a b = omega arith

module _ (classes : Classes) (firsts : List ℕ) where
  abbrev numbers : Table ℕ
  numbers = classes.numbers

  abbrev home : ℕ → Home
  home this = record { classes = classes; firsts = firsts; this = this }

  -- the class of a method, and its place there
  record IsOf (cs : List Class) (first this k : ℕ) (m : Method) (fact : MethodFact) : Type 0 where
    class : ℕ
    c : Class
    c_is : slice_get cs class ≡ Some c
    q : ℕ
    m_is : slice_get (methods_in c.members) q ≡ Some m
    owner : fact.class ≡ this + class
    own_first : ℕ
    first_is : slice_get (firsts_from first (map (class_members numbers) cs)) class ≡ Some own_first
    number_is : own_first + q ≡ first + k

  -- a method of the first class, or of one behind it
  of_more : (x : Class) (cs : List Class) (first this k : ℕ) (m : Method) (fact : MethodFact) → length (class_members numbers x).methods.names ≡ length (methods_in x.members) → Place (methods_in x.members) k
      → slice_get (methods_in x.members ++ methods_of cs) k ≡ Some m → slice_get (map (method_known (home this)) (methods_in x.members) ++ (all_found (home (this + 1)) cs).methods) k ≡ Some fact
      → ((j : ℕ) → slice_get (methods_of cs) j ≡ Some m → slice_get (all_found (home (this + 1)) cs).methods j ≡ Some fact → IsOf cs (first + length (class_members numbers x).methods.names) (this + 1) j m fact)
      → IsOf (x ∷ cs) first this k m fact
  of_more x cs first this k m fact long (Place.inside l) h i later =
      let ms = methods_in x.members in
      let f = method_known (home this) in
      let others = (all_found (home (this + 1)) cs).methods in
      let own : slice_get ms k ≡ Some m = sym (get_before ms (methods_of cs) k l) ∙ h in
      let known : f m ≡ fact = got_map f ms k m fact own (sym (get_before (map f ms) others k (subst (λ (n : ℕ). k < n) (sym (length-map ms f)) l)) ∙ i) in
      record { class = 0; c = x; c_is = refl; q = k; m_is = own; owner = sym (ap (λ (z : MethodFact). z.class) known) ∙ plus_none this; own_first = first; first_is = refl; number_is = refl }
  of_more x cs first this k m fact long (Place.behind j e) h i later =
      let ms = methods_in x.members in
      let f = method_known (home this) in
      let others = (all_found (home (this + 1)) cs).methods in
      let own : slice_get (methods_of cs) j ≡ Some m = sym (get_behind ms (methods_of cs) j (length ms) refl) ∙ ap (λ (n : ℕ). slice_get (ms ++ methods_of cs) n) (sym e) ∙ h in
      let known : slice_get others j ≡ Some fact =
      sym (get_behind (map f ms) others j (length (map f ms)) refl) ∙ ap (λ (n : ℕ). slice_get (map f ms ++ others) (n + j)) (length-map ms f) ∙ ap (λ (n : ℕ). slice_get (map f ms ++ others) n) (sym e) ∙ i in
      let r = later j own known in
      let number = r.number_is in
      record { class = suc r.class; c = r.c; c_is = r.c_is; q = r.q; m_is = r.m_is; owner = r.owner ∙ one_more this r.class; own_first = r.own_first; first_is = r.first_is; number_is = omega (arith, number, long, e) }

  class_of : (cs : List Class) → AllProper classes firsts cs → (first this k : ℕ) (m : Method) (fact : MethodFact) → slice_get (methods_of cs) k ≡ Some m → slice_get (all_found (home this) cs).methods k ≡ Some fact → IsOf cs first this k m fact
  class_of [] p first this k m fact h i = absurd (cc h)
  class_of (x ∷ cs) p first this k m fact h i =
      of_more x cs first this k m fact p.0.names (place_in (methods_in x.members) k) h (ap (λ (fs : List MethodFact). slice_get (fs ++ (all_found (home (this + 1)) cs).methods) k) (sym (methods_found classes firsts this x.members)) ∙ i)
      (λ j own known. class_of cs p.1 (first + length (class_members numbers x).methods.names) (this + 1) j m fact own known)

  -- a method by its class and its place there
  record IsPlaced (cs : List Class) (first class q : ℕ) (m : Method) : Type 0 where
    before : ℕ
    first_is : slice_get (firsts_from first (map (class_members numbers) cs)) class ≡ Some (first + before)
    m_is : slice_get (methods_of cs) (before + q) ≡ Some m

  placed : (cs : List Class) → AllProper classes firsts cs → (first class q : ℕ) (c : Class) (m : Method) → slice_get cs class ≡ Some c → slice_get (methods_in c.members) q ≡ Some m → IsPlaced cs first class q m
  placed [] p first class q c m e h = absurd (cc e)
  placed (x ∷ cs) p first zero q c m e h =
      let own : slice_get (methods_in x.members) q ≡ Some m = ap (λ (y : Class). slice_get (methods_in y.members) q) (some_is e) ∙ h in
      record { before = 0; first_is = ap Some (plus_none first); m_is = ap (λ (i : ℕ). slice_get (methods_in x.members ++ methods_of cs) i) (none_plus q) ∙ get_before (methods_in x.members) (methods_of cs) q (slice_get_within (methods_in x.members) q m own) ∙ own }
  placed (x ∷ cs) p first (suc class) q c m e h =
      let count = length (class_members numbers x).methods.names in
      let r = placed cs p.1 (first + count) class q c m e h in
      record {
        before = count + r.before;
        first_is = r.first_is ∙ ap Some (together first count r.before);
        m_is = ap (λ (i : ℕ). slice_get (methods_in x.members ++ methods_of cs) ((i + r.before) + q)) p.0.names ∙ ap (λ (i : ℕ). slice_get (methods_in x.members ++ methods_of cs) i) (together (length (methods_in x.members)) r.before q) ∙ get_behind (methods_in x.members) (methods_of cs) (r.before + q) (length (methods_in x.members)) refl ∙ r.m_is;
      }

  -- ---- the class Main

  -- the class with this number, and its entries
  pub record IsMain (all : List Class) (main : Main) : Type 0 where
    pub c : Class
    pub c_is : slice_get all main.class ≡ Some c
    pub entries_are : main.entries ≡ entries_from numbers (first_method firsts main.class) c.members

  main_by : (b : Bool) (all cs : List Class) (c : Class) (k end : ℕ) → drop k all ≡ c ∷ cs → Clean (if b then entries numbers c.members else main_notes numbers end cs)
      → (Clean (main_notes numbers end cs) → IsMain all (main_from numbers firsts (k + 1) cs))
      → IsMain all (if b then record { class = k; entries = entries_from numbers (first_method firsts k) c.members } else main_from numbers firsts (k + 1) cs)
  main_by true all cs c k end d n later = record { c = c; c_is = first_in_drop all cs k c d; entries_are = refl }
  main_by false all cs c k end d n later = later n

  pub main_is : (all cs : List Class) (k end : ℕ) → drop k all ≡ cs → Clean (main_notes numbers end cs) → IsMain all (main_from numbers firsts k cs)
  main_is all [] k end d n = absurd n
  main_is all (c ∷ cs) k end d n =
      main_by (bytes_eq c.name.bytes (codes "Main")) all cs c k end d n (λ n'. main_is all cs (k + 1) end (ap (λ (i : ℕ). drop i all) (sym (add_one k)) ∙ rest_in_drop all cs k c d) n')

  -- ---- entries

  record IsThere (number q : ℕ) (es : List Entry) : Type 0 where
    place : ℕ
    entry : Entry
    is : slice_get es place ≡ Some entry
    method : entry.method ≡ number + q

  there_later : (a : Access) (number q : ℕ) (e : Entry) (es : List Entry) → IsThere (number + 1) q es → IsThere number (suc q) (entry_if a e ++ es)
  there_later access.Public number q e es r = record { place = suc r.place; entry = r.entry; is = r.is; method = r.method ∙ one_more number q }
  there_later access.Private number q e es r = record { place = r.place; entry = r.entry; is = r.is; method = r.method ∙ one_more number q }
  there_later access.Plain number q e es r = record { place = r.place; entry = r.entry; is = r.is; method = r.method ∙ one_more number q }

  there_first : (a : Access) (number : ℕ) (x : Method) (es : List Entry) → is_public a ≡ true → IsThere number 0 (entry_if a (entry_of numbers number x) ++ es)
  there_first access.Public number x es h = record { place = 0; entry = entry_of numbers number x; is = refl; method = plus_none number }
  there_first access.Private number x es h = absurd (true≢false (sym h))
  there_first access.Plain number x es h = absurd (true≢false (sym h))

  entry_there : (number : ℕ) (ms : List Member) (q : ℕ) (m : Method) → slice_get (methods_in ms) q ≡ Some m → is_public m.access ≡ true → IsThere number q (entries_from numbers number ms)
  entry_there number [] q m h p = absurd (cc h)
  entry_there number (member.Field f ∷ ms) q m h p = entry_there number ms q m h p
  entry_there number (member.Method x ∷ ms) zero m h p = there_first x.access number x (entries_from numbers (number + 1) ms) (ap (λ (z : Method). is_public z.access) (some_is h) ∙ p)
  entry_there number (member.Method x ∷ ms) (suc q) m h p = there_later x.access number q (entry_of numbers number x) (entries_from numbers (number + 1) ms) (entry_there (number + 1) ms q m h p)

  record IsOfPublic (number : ℕ) (ms : List Method) (entry : Entry) : Type 0 where
    q : ℕ
    m : Method
    m_is : slice_get ms q ≡ Some m
    method : entry.method ≡ number + q
    public : is_public m.access ≡ true

  public_later : (number : ℕ) (x : Method) (ms : List Method) (entry : Entry) → IsOfPublic (number + 1) ms entry → IsOfPublic number (x ∷ ms) entry
  public_later number x ms entry r = record { q = suc r.q; m = r.m; m_is = r.m_is; method = r.method ∙ one_more number r.q; public = r.public }

  public_at : (a : Access) (number place : ℕ) (x : Method) (ms : List Method) (es : List Entry) (entry : Entry) → x.access ≡ a → ((place : ℕ) → slice_get es place ≡ Some entry → IsOfPublic (number + 1) ms entry)
      → slice_get (entry_if a (entry_of numbers number x) ++ es) place ≡ Some entry → IsOfPublic number (x ∷ ms) entry
  public_at access.Public number zero x ms es entry e later h = record { q = 0; m = x; m_is = refl; method = sym (ap (λ (z : Entry). z.method) (some_is h)) ∙ plus_none number; public = ap is_public e }
  public_at access.Public number (suc place) x ms es entry e later h = public_later number x ms entry (later place h)
  public_at access.Private number place x ms es entry e later h = public_later number x ms entry (later place h)
  public_at access.Plain number place x ms es entry e later h = public_later number x ms entry (later place h)

  entry_public : (number : ℕ) (ms : List Member) (place : ℕ) (entry : Entry) → slice_get (entries_from numbers number ms) place ≡ Some entry → IsOfPublic number (methods_in ms) entry
  entry_public number [] place entry h = absurd (cc h)
  entry_public number (member.Field f ∷ ms) place entry h = entry_public number ms place entry h
  entry_public number (member.Method x ∷ ms) place entry h = public_at x.access number place x (methods_in ms) (entries_from numbers (number + 1) ms) entry refl (λ p k. entry_public (number + 1) ms p entry k) h

  -- ---- methods of the class Main

  same_class : (cs : List Class) (a b : ℕ) (c d : Class) → a ≡ b → slice_get cs a ≡ Some c → slice_get cs b ≡ Some d → d ≡ c
  same_class cs a b c d e h i = some_is (sym i ∙ ap (λ (n : ℕ). slice_get cs n) (sym e) ∙ h)

  pub public_is_entry : (cs : List Class) → AllProper classes firsts cs → firsts ≡ firsts_from 1 (map (class_members numbers) cs) → (main : Main) → IsMain cs main → (k : ℕ) (m : Method) (fact : MethodFact) → slice_get (methods_of cs) k ≡ Some m → slice_get (all_found (home 0) cs).methods k ≡ Some fact → is_public m.access ≡ true → fact.class ≡ main.class
      → (place : ℕ) × (entry : Entry) × (slice_get main.entries place ≡ Some entry) × (entry.method ≡ suc k)
  public_is_entry cs p all main is k m fact h i a o =
      let r = class_of cs p 1 0 k m fact h i in
      let class : r.class ≡ main.class = sym (r.owner ∙ none_plus r.class) ∙ o in
      let c : is.c ≡ r.c = same_class cs r.class main.class r.c is.c class r.c_is is.c_is in
      let first : first_method firsts main.class ≡ r.own_first = ap (λ (n : ℕ). first_method firsts n) (sym class) ∙ ap (λ (fs : List ℕ). first_method fs r.class) all ∙ ap (λ (n : Option ℕ). unwrap_or n 1) r.first_is in
      let t = entry_there r.own_first r.c.members r.q m r.m_is a in
      let entries_are : main.entries ≡ entries_from numbers r.own_first r.c.members = is.entries_are ∙ ap (λ (n : ℕ). entries_from numbers n is.c.members) first ∙ ap (λ (d : Class). entries_from numbers r.own_first d.members) c in
      (t.place, t.entry, ap (λ (es : List Entry). slice_get es t.place) entries_are ∙ t.is, t.method ∙ r.number_is ∙ one_plus k)

  pub entry_is_public : (cs : List Class) → AllProper classes firsts cs → firsts ≡ firsts_from 1 (map (class_members numbers) cs) → (main : Main) → IsMain cs main → (place : ℕ) (entry : Entry) → slice_get main.entries place ≡ Some entry → (m : Method) × (k : ℕ) × (entry.method ≡ suc k) × (slice_get (methods_of cs) k ≡ Some m) × (is_public m.access ≡ true)
  entry_is_public cs p all main is place entry h =
      let e = entry_public (first_method firsts main.class) is.c.members place entry (ap (λ (es : List Entry). slice_get es place) (sym is.entries_are) ∙ h) in
      let r = placed cs p 1 main.class e.q is.c e.m is.c_is e.m_is in
      let first : first_method firsts main.class ≡ 1 + r.before = ap (λ (fs : List ℕ). first_method fs main.class) all ∙ ap (λ (n : Option ℕ). unwrap_or n 1) r.first_is in
      (e.m, r.before + e.q, e.method ∙ ap (λ (n : ℕ). n + e.q) first ∙ one_together r.before e.q, r.m_is, e.public)
