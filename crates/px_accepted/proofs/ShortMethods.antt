-- A method's parts and slots are no more than its tokens.
use Rattle.std.proofs.Common.{◌≡◌, ◌≤◌, ◌<◌, ℕ, zero, suc, ◌+◌, ◌-◌, ◌*◌, nat_lt, true, List, [], ◌∷◌, ◌++◌, length, length-append, map, Option, Some, slice_get, refl, subst, arith}
use Rattle.std.proofs.lemmas.Bool.Decides.{nat_tests}
use Rattle.px_lex.specs.declared.token.Token.{Token}
use Rattle.px_words.specs.declared.lexeme.Lexeme.{Lexeme}
use Rattle.px_parse.specs.declared.whole.Declared.{Declared}
use Rattle.px_words.specs.Lexemes.{lexemes_from}
use Rattle.px_parse.specs.Trees.{name_of, block_of, first_token}
use Rattle.px_parse.specs.Grammar.{SpellsType, SpellsAccess, SpellsResult, SpellsParam, SpellsMoreParams, SpellsParams, SpellsMember, SpellsMembers, SpellsClass, SpellsClasses, SpellsProgram}
use Rattle.px_tree.specs.declared.Access.{Access}
use Rattle.px_tree.specs.declared.TypeName.{TypeName}
use Rattle.px_tree.specs.declared.Param.{Param}
use Rattle.px_tree.specs.declared.Method.{Method}
use Rattle.px_tree.specs.declared.Member.{Member}
use Rattle.px_tree.specs.declared.Class.{Class}
use Rattle.px_tree.specs.Numbering.{in_order, numbered_statement, numbered_member, numbered_class}
use Rattle.px_facts.specs.declared.checked.MethodFact.{MethodFact}
use Rattle.px_types.specs.declared.table.Table.{Table}
use Rattle.px_types.specs.declared.classes.Classes.{Classes}
use Rattle.px_types.specs.declared.home.Home.{Home}
use Rattle.px_types.specs.declared.scope.Scope.{Scope}
use Rattle.px_types.specs.Members.{param_type, result_type}
use Rattle.px_types.specs.Scopes.{no_locals}
use Rattle.px_types.specs.Slots.{first_scope, with_slot}
use Rattle.px_types.specs.Methods.{max_tokens, result_notes, param_notes, judged_body, ends, method_notes}
use Rattle.px_types.specs.Programs.{class_bodies, bodies}
use Rattle.px_types.specs.Bodies.{with_params, class_found, all_found}
use Rattle.px_mean.specs.Program.{methods_in, methods_of}
use Rattle.px_soundness.proofs.Clean.{Clean, clean_left, clean_right, kept, some_is}
use Rattle.px_typed_code.specs.Sizes.{parts, size, all_sizes}
use Rattle.px_accepted.proofs.SpelledStatements.{many, block_small, items}
use Rattle.px_accepted.proofs.SpelledSizes as sizes

-- ---- the numbers of tokens

-- their tokens are numbered from here on
abbrev pub IsFrom : ℕ → List Lexeme → Type 0
IsFrom k [] = Unit {0}
IsFrom k (x ∷ xs) = (x.token ≡ k) × IsFrom (k + 1) xs

pub lexemes_are_from : (bytes : List ℕ) (k : ℕ) (ts : List Token) → IsFrom k (lexemes_from bytes k ts)
lexemes_are_from bytes k [] = tt
lexemes_are_from bytes k (t ∷ ts) = (refl, lexemes_are_from bytes (k + 1) ts)

from_left : (k : ℕ) (xs ys : List Lexeme) → IsFrom k (xs ++ ys) → IsFrom k xs
from_left k [] ys h = tt
from_left k (x ∷ xs) ys h = (h.0, from_left (k + 1) xs ys h.1)

from_right : (k : ℕ) (xs ys : List Lexeme) → IsFrom k (xs ++ ys) → IsFrom (k + length xs) ys
from_right k [] ys h = let e : k ≡ k + 0 = omega arith in subst (λ (n : ℕ). IsFrom n ys) e h
from_right k (x ∷ xs) ys h = let e : k + 1 + length xs ≡ k + suc (length xs) = omega arith in subst (λ (n : ℕ). IsFrom n ys) e (from_right (k + 1) xs ys h.1)

type_begins : (source : List ℕ) (t : TypeName) (xs : List Lexeme) (k : ℕ) → SpellsType source t xs → IsFrom k xs → first_token xs ≡ k
type_begins source _ _ k (SpellsType.single x h) f = f.0
type_begins source _ _ k (SpellsType.array x opening closing h i j) f = f.0

result_begins : (source : List ℕ) (gives : Option TypeName) (xs : List Lexeme) (k : ℕ) → SpellsResult source gives xs → IsFrom k xs → first_token xs ≡ k
result_begins source _ _ k (SpellsResult.nothing x h) f = f.0
result_begins source _ xs k (SpellsResult.of_type {ty = t} d) f = type_begins source t xs k d f

begins : (source : List ℕ) (access : Access) (gives : Option TypeName) (ms rs : List Lexeme) (k : ℕ) → SpellsAccess access ms → SpellsResult source gives rs → IsFrom k (ms ++ rs) → first_token (ms ++ rs) ≡ k
begins source _ gives _ rs k (SpellsAccess.as_public x h) r f = f.0
begins source _ gives _ rs k (SpellsAccess.as_private x h) r f = f.0
begins source _ gives _ rs k SpellsAccess.plain r f = result_begins source gives rs k r f

-- ---- parameters

param_long : (source : List ℕ) (p : Param) (xs : List Lexeme) → SpellsParam source p xs → 1 ≤ length xs
param_long source _ _ (SpellsParam.param t ts name h d) = omega (arith, length-append ts (name ∷ []))

more_params_long : (source : List ℕ) (ps : List Param) (xs : List Lexeme) → SpellsMoreParams source ps xs → length ps ≤ length xs
more_params_long source _ _ SpellsMoreParams.no_more = omega arith
more_params_long source _ _ (SpellsMoreParams.more comma p ps xs ys h d f) = omega (arith, length-append (comma ∷ xs) ys, more_params_long source ps ys f)

params_long : (source : List ℕ) (ps : List Param) (xs : List Lexeme) → SpellsParams source ps xs → length ps ≤ length xs
params_long source _ _ SpellsParams.no_param = omega arith
params_long source _ _ (SpellsParams.params p ps xs ys d f) = omega (arith, length-append xs ys, param_long source p xs d, more_params_long source ps ys f)

params_many : (numbers : Table ℕ) (s : Scope) (ps : List Param) → many (with_params numbers s ps) ≡ many s + length ps
params_many numbers s [] = omega arith
params_many numbers s (p ∷ ps) = omega (arith, params_many numbers (with_slot p.name.bytes (param_type numbers p) s) ps, length-append s.slots (param_type numbers p ∷ []))

-- ---- methods

less_than : (a b : ℕ) → nat_lt a b ≡ true → a < b
less_than a b h = grind (arith, nat_tests)

-- its parts and its slots are no more than the tokens that a method may have, and so are its statements and expressions
abbrev pub IsShort : Method → MethodFact → Type 0
IsShort m f = (parts m.body + length f.slots ≤ max_tokens) × (size m.body ≤ max_tokens)

abbrev pub AllShort : List Method → List MethodFact → Type 0
AllShort [] [] = Unit {0}
AllShort (m ∷ ms) (f ∷ fs) = IsShort m f × AllShort ms fs
AllShort _ _ = ⊥

short_both : (ms ns : List Method) (fs gs : List MethodFact) → AllShort ms fs → AllShort ns gs → AllShort (ms ++ ns) (fs ++ gs)
short_both [] ns [] gs h k = k
short_both (m ∷ ms) ns (f ∷ fs) gs h k = (h.0, short_both ms ns fs gs h.1 k)
short_both [] ns (f ∷ fs) gs h k = absurd h
short_both (m ∷ ms) ns [] gs h k = absurd h

pub short_at : (ms : List Method) (fs : List MethodFact) (place : ℕ) (m : Method) (f : MethodFact) → AllShort ms fs → slice_get ms place ≡ Some m → slice_get fs place ≡ Some f → IsShort m f
short_at [] [] place m f a h k = absurd (cc h)
short_at (x ∷ ms) (y ∷ fs) zero m f a h k = subst (λ (w : Method × MethodFact). IsShort w.0 w.1) (λ i. (some_is h i, some_is k i)) a.0
short_at (x ∷ ms) (y ∷ fs) (suc place) m f a h k = short_at ms fs place m f a.1 h k
short_at [] (y ∷ fs) place m f a h k = absurd a
short_at (x ∷ ms) [] place m f a h k = absurd a

-- so many methods have so many statements and expressions
pub sizes_few : (ms : List Method) (fs : List MethodFact) (n : ℕ) → AllShort ms fs → length ms ≤ n → all_sizes ms ≤ n * max_tokens
sizes_few [] fs n a h = omega arith
sizes_few (m ∷ ms) (f ∷ fs) zero a h = absurd (omega (arith, h))
sizes_few (m ∷ ms) (f ∷ fs) (suc n) a h = omega (arith, a.0.1, sizes_few ms fs n a.1 (omega (arith, h)))
sizes_few (m ∷ ms) [] n a h = absurd a

module _ (classes : Classes) (firsts : List ℕ) (source : List ℕ) where
  abbrev home : ℕ → Home
  home this = record { classes = classes; firsts = firsts; this = this }

  -- the rule of a method's length
  fits : (this : ℕ) (m : Method) → Clean (method_notes classes this m) → nat_lt (m.to - m.from) max_tokens ≡ true
  fits this m c =
      let result = result_type classes.numbers m.gives in
      let j = judged_body classes this m in
      let c1 = clean_right (result_notes classes.numbers m.gives) _ c in
      let c2 = clean_right (param_notes classes.numbers no_locals m.params) _ c1 in
      let c3 = clean_right j.notes _ c2 in
      let c4 = clean_right (ends m result j.completes) _ c3 in
      kept (nat_lt (m.to - m.from) max_tokens) (m.from + max_tokens) 17 c4

  -- what is said of the tokens between the first and the last
  within : (from to a b : ℕ) → to - from < max_tokens → to ≡ from + a → b ≤ a → b + 1 ≤ max_tokens
  within from to a b h e k = omega (arith, h, e, k)

  member_short : (this n k : ℕ) (m : Member) (ms : List Member) (xs : List Lexeme) → SpellsMember source m xs → IsFrom k xs → ((n : ℕ) → Clean (class_bodies classes this (in_order (map numbered_member ms) n).0) → AllShort (methods_in (in_order (map numbered_member ms) n).0) (class_found (home this) (in_order (map numbered_member ms) n).0).methods)
      → Clean (class_bodies classes this (in_order (map numbered_member (m ∷ ms)) n).0) → AllShort (methods_in (in_order (map numbered_member (m ∷ ms)) n).0) (class_found (home this) (in_order (map numbered_member (m ∷ ms)) n).0).methods
  member_short this n k _ ms _ (SpellsMember.field access t name semicolon ws ts h i d f) from rest c = rest n c
  member_short this n k _ ms _ (SpellsMember.method access gives ps ss ws rs pts ts xs name opening closing begin finish h1 h2 h3 h4 h5 d r p t b) from rest c =
      let body = block_of begin ss in
      let y = numbered_statement body n in
      let m : Method = record { access = access; gives = gives; name = name_of source name; params = ps; body = y.0; from = first_token (ws ++ rs); to = finish.token } in
      let scope = with_params classes.numbers (first_scope this) ps in
      let size = block_small (home this) begin.token ss (length xs) (items (home this) source ss xs b) n scope in
      let whole = sizes.block_small begin.token ss (length xs) (sizes.items source ss xs b) n in
      let slots = params_many classes.numbers (first_scope this) ps in
      let long = params_long source ps pts p in
      let head = rs ++ (name ∷ opening ∷ pts) in
      let tail = (closing ∷ ts) ++ ((begin ∷ xs) ++ (finish ∷ [])) in
      let behind = from_right k ws (head ++ tail) from in
      let later = from_right (k + length ws) head tail behind in
      let last = (from_right (k + length ws + length head + length (closing ∷ ts)) (begin ∷ xs) (finish ∷ []) (from_right (k + length ws + length head) (closing ∷ ts) ((begin ∷ xs) ++ (finish ∷ [])) later)).0 in
      let first : first_token (ws ++ rs) ≡ k = begins source access gives ws rs k d r (first_two k ws rs (name ∷ opening ∷ pts) tail from) in
      let to : m.to ≡ m.from + (length ws + length head + length (closing ∷ ts) + length (begin ∷ xs)) = omega (arith, last, first) in
      let few = within m.from m.to (length ws + length head + length (closing ∷ ts) + length (begin ∷ xs)) (length pts + length xs + 1) (less_than (m.to - m.from) max_tokens (fits this m (clean_left (method_notes classes this m) _ c))) to (omega (arith, length-append rs (name ∷ opening ∷ pts))) in (
        (omega (arith, size, slots, long, few), omega (arith, whole, few)),
        rest y.1 (clean_right (method_notes classes this m) _ c),
      )
    where
      first_two : (k : ℕ) (ws rs xs ys : List Lexeme) → IsFrom k (ws ++ ((rs ++ xs) ++ ys)) → IsFrom k (ws ++ rs)
      first_two k [] rs xs ys h = from_left k rs xs (from_left k (rs ++ xs) ys h)
      first_two k (w ∷ ws) rs xs ys h = (h.0, first_two (k + 1) ws rs xs ys h.1)

  members_short : (this n k : ℕ) (ms : List Member) (xs : List Lexeme) → SpellsMembers source ms xs → IsFrom k xs → Clean (class_bodies classes this (in_order (map numbered_member ms) n).0) → AllShort (methods_in (in_order (map numbered_member ms) n).0) (class_found (home this) (in_order (map numbered_member ms) n).0).methods
  members_short this n k _ _ SpellsMembers.no_member from c = tt
  members_short this n k _ _ (SpellsMembers.member m ms xs ys d f) from c = member_short this n k m ms xs d (from_left k xs ys from) (λ n c. members_short this n (k + length xs) ms ys f (from_right k xs ys from) c) c

  class_short : (this n k : ℕ) (c : Class) (cs : List Class) (xs : List Lexeme) → SpellsClass source c xs → IsFrom k xs → ((n : ℕ) → Clean (bodies classes (this + 1) (in_order (map numbered_class cs) n).0) → AllShort (methods_of (in_order (map numbered_class cs) n).0) (all_found (home (this + 1)) (in_order (map numbered_class cs) n).0).methods)
      → Clean (bodies classes this (in_order (map numbered_class (c ∷ cs)) n).0) → AllShort (methods_of (in_order (map numbered_class (c ∷ cs)) n).0) (all_found (home this) (in_order (map numbered_class (c ∷ cs)) n).0).methods
  class_short this n k _ cs _ (SpellsClass.class word name opening closing ms ws xs h1 h2 h3 h4 p d) from rest c =
      let y = in_order (map numbered_member ms) n in
      let q = in_order (map numbered_class cs) y.1 in
      let whole = from_left k (ws ++ (word ∷ name ∷ opening ∷ xs)) (closing ∷ []) from in
      let inside = (from_right k ws (word ∷ name ∷ opening ∷ xs) whole).1.1.1 in
      short_both (methods_in y.0) (methods_of q.0) (class_found (home this) y.0).methods (all_found (home (this + 1)) q.0).methods
      (members_short this n (k + length ws + 1 + 1 + 1) ms xs d inside (clean_left (class_bodies classes this y.0) _ c))
      (rest y.1 (clean_right (class_bodies classes this y.0) _ c))

  classes_short : (this n k : ℕ) (cs : List Class) (xs : List Lexeme) → SpellsClasses source cs xs → IsFrom k xs → Clean (bodies classes this (in_order (map numbered_class cs) n).0) → AllShort (methods_of (in_order (map numbered_class cs) n).0) (all_found (home this) (in_order (map numbered_class cs) n).0).methods
  classes_short this n k _ _ SpellsClasses.no_class from c = tt
  classes_short this n k _ _ (SpellsClasses.class c cs xs ys d f) from clean = class_short this n k c cs xs d (from_left k xs ys from) (λ n h. classes_short (this + 1) n (k + length xs) cs ys f (from_right k xs ys from) h) clean

  pub declared_short : (k : ℕ) (d : Declared) (xs : List Lexeme) → SpellsProgram source d xs → IsFrom k xs → Clean (bodies classes 0 (in_order (map numbered_class d.classes) 0).0) → AllShort (methods_of (in_order (map numbered_class d.classes) 0).0) (all_found (home 0) (in_order (map numbered_class d.classes) 0).0).methods
  declared_short k _ _ (SpellsProgram.program tables c cs finish ts xs ys h t d f) from clean =
      let behind = from_right k ts (xs ++ (ys ++ finish ∷ [])) from in
      let later = from_left (k + length ts + length xs) ys (finish ∷ []) (from_right (k + length ts) xs (ys ++ finish ∷ []) behind) in
      class_short 0 0 (k + length ts) c cs xs d (from_left (k + length ts) xs (ys ++ finish ∷ []) behind) (λ n h. classes_short (0 + 1) n (k + length ts + length xs) cs ys f later h) clean
