-- What follows from a plan that two ends can serve.
use Rattle.std.proofs.Common.{◌≡◌, ℕ, zero, suc, ◌+◌, ◌≤◌, ◌<◌, ◌^◌, false, true, List, [], ◌∷◌, length, Option, Some, None, slice_get, slice_index_or, Contains, refl, sym, ap, subst, ◌∙◌, arith}
use Rattle.std.proofs.lemmas.List.{length-map}
use Rattle.std.specs.List.{AllByRecursion}
use Rattle.px_value.specs.declared.value.Value.{Value}
use Rattle.px_value.specs.declared.value.Value.TheVariants as v
use Rattle.px_value.specs.declared.object.Object.{Object}
use Rattle.px_value.specs.Defaults.{default_of}
use Rattle.px_value.specs.Heap.{max_counted}
use Rattle.px_value.specs.declared.header.Kind.TheVariants as kind
use Rattle.px_code.specs.declared.word.Operand.{Operand}
use Rattle.px_code.specs.declared.word.Operand.TheVariants.{Slot, Literal}
use Rattle.px_code.specs.declared.word.Word.{Word}
use Rattle.px_code.specs.declared.word.Word.TheVariants as w
use Rattle.px_code.specs.declared.class.Class.{Class}
use Rattle.px_code.specs.declared.class.Field.{Field}
use Rattle.px_code.specs.declared.method.Method.{Method}
use Rattle.px_code.specs.declared.method.Tree.{Tree}
use Rattle.px_code.specs.declared.method.Tree.TheVariants.{Do}
use Rattle.px_code.specs.declared.code.Code.{Code}
use Rattle.px_code.specs.declared.block.Statement.{Statement}
use Rattle.px_code.specs.declared.block.Block.{Block}
use Rattle.px_code.specs.declared.plan.Plan.{Plan}
use Rattle.px_code.specs.Places.{site_kind, fields_in}
use Rattle.px_code.specs.Points.{HasStatement, InSlot}
use Rattle.px_code.specs.CodeRun.{method_at}
use Rattle.px_code.specs.Machine.{block_at}
use Rattle.px_code.specs.Sound.{IsNoReference, IsInput}
use Rattle.px_code.specs.Law.{IsNoLiteralReference, HasNoReference, AreStatements}
use Rattle.px_code.specs.Act.{slot_of}
use Rattle.px_code.specs.WellFormed.{ends_in_return, IsPlainValue, IsOperandOf, IsOperandIf, IsWordOf, IsTreeOf, IsMethodOf, IsWellFormed, HasFewSlots}
use Rattle.px_code.proofs.Alone.{alone}
use Rattle.px_wire.specs.Fitting.{HasShortText}
use Rattle.px_half.specs.End.{fields_of, class_defaults, HasSmallMain}
use Rattle.px_half.specs.Law.{IsShortOperand, IsShortOption, IsShortWord, AreShort}
use Rattle.px_pair.specs.Law.{NamesClasses}
use Rattle.px_pair.specs.Crossing.{ReturnsNoLiteral, ReturnNoLiterals}
use Rattle.px_pair.specs.Calls.{AreGoodBlocks}
use Rattle.px_pair.specs.Good.{HasNoLiteral, AllReturn, IsBelowIf, WritesInside}
use Rattle.px_pair.specs.Whole.{IsServed}
use Rattle.px_pair.specs.Servable.{IsServable}
use Rattle.px_pair.proofs.Good.{cut_is_good, each_at}

-- ---- what holds of each element

pub each_contained : {A : Type 0} (P : A → Type 0) (xs : List A) (x : A) → AllByRecursion P xs → Contains xs x → P x
each_contained P [] x all h = absurd (let l = h.1 in omega (arith, l))
each_contained P (y ∷ xs) x all h = at (each_contained P xs x all.1) h.0 h.1 h.2
  where
    at : (Contains xs x → P x) → (k : ℕ) → k < length (y ∷ xs) → slice_index_or (y ∷ xs) k x ≡ x → P x
    at later zero l e = subst P e all.0
    at later (suc k) l e = later (k, omega (arith, l), e)

pub each_method : (P : Method → Type 0) (methods : List Method) (m : ℕ) (method : Method) → AllByRecursion P methods → method_at methods m ≡ Some method → P method
each_method P methods zero method all e = cc
each_method P methods (suc k) method all e = each_at P methods k method all e

-- ---- well-formed code

-- a statement's word is one of its method
pub word_of : (code : Code) → IsWellFormed code → (m node : ℕ) (word : Word) (has : HasStatement code m node word) → IsWordOf code (length has.method.slots) word
word_of code formed m node word has =
    let method : IsMethodOf code has.method = each_method (IsMethodOf code) code.methods m has.method formed.methods has.is.is in
    each_contained (IsTreeOf code (length has.method.slots)) has.method.body (Do node word) method.words has.has

pub names_classes : (code : Code) → IsWellFormed code → NamesClasses code
names_classes code formed m node of class field site value has points =
    let word : IsWordOf code (length has.method.slots) (w.Put (Slot of) class field value) = word_of code formed m node (w.Put (Slot of) class field value) has in
    ap (site_kind code) (alone code (InSlot m of) site points) ∙ ap (λ (c : ℕ). Some (kind.Object c)) (sym word.2.0)

-- ---- literals

plain_value : (x : Value) → IsPlainValue x → IsNoReference x
plain_value (v.Int n) h = tt
plain_value (v.Long n) h = tt
plain_value (v.Bool b) h = tt
plain_value (v.Text t) h = absurd h
plain_value v.Null h = tt
plain_value (v.Ref o) h = absurd h

short_value : (x : Value) → IsPlainValue x → HasShortText x
short_value (v.Int n) h = tt
short_value (v.Long n) h = tt
short_value (v.Bool b) h = tt
short_value (v.Text t) h = absurd h
short_value v.Null h = tt
short_value (v.Ref o) h = absurd h

plain_operand : (n : ℕ) (a : Operand) → IsOperandOf n a → IsNoLiteralReference a
plain_operand n (Slot k) h = tt
plain_operand n (Literal x) h = plain_value x h

short_operand : (n : ℕ) (a : Operand) → IsOperandOf n a → IsShortOperand a
short_operand n (Slot k) h = tt
short_operand n (Literal x) h = short_value x h

short_option : (n : ℕ) (a : Option Operand) → IsOperandIf n a → IsShortOption a
short_option n None h = tt
short_option n (Some a) h = short_operand n a h

no_reference : (code : Code) (n : ℕ) (word : Word) → IsWordOf code n word → HasNoReference word
no_reference code n (w.Set to a) h = plain_operand n a h.1
no_reference code n (w.Op op to a b) h = tt
no_reference code n (w.Get to of class field) h = plain_operand n of h.1
no_reference code n (w.Put of class field a) h = (plain_operand n of h.0, plain_operand n a h.1)
no_reference code n (w.Return a) h = tt

returns_none : (code : Code) (n : ℕ) (word : Word) → IsWordOf code n word → ReturnsNoLiteral word
returns_none code n (w.Set to a) h = tt
returns_none code n (w.Op op to a b) h = tt
returns_none code n (w.Get to of class field) h = tt
returns_none code n (w.Put of class field a) h = tt
returns_none code n (w.Return None) h = tt
returns_none code n (w.Return (Some a)) h = plain_operand n a h

short_word : (code : Code) (n : ℕ) (word : Word) → IsWordOf code n word → IsShortWord word
short_word code n (w.Set to a) h = short_operand n a h.1
short_word code n (w.Op op to a b) h = (short_operand n a h.1, short_option n b h.2)
short_word code n (w.Get to of class field) h = short_operand n of h.1
short_word code n (w.Put of class field a) h = (short_operand n of h.0, short_operand n a h.1)
short_word code n (w.Return a) h = short_option n a h

pub has_no_literal : (code : Code) → IsWellFormed code → HasNoLiteral code
has_no_literal code formed m node word has = no_reference code (length has.method.slots) word (word_of code formed m node word has)

-- ---- methods

all_return_of : (code : Code) (methods : List Method) → AllByRecursion (IsMethodOf code) methods → AllByRecursion (λ (m : Method). ends_in_return false m.body ≡ true) methods
all_return_of code [] h = tt
all_return_of code (m ∷ methods) h = (h.0.ends, all_return_of code methods h.1)

pub all_return : (code : Code) → IsWellFormed code → AllReturn code
all_return code formed = all_return_of code code.methods formed.methods

word_inside : (code : Code) (n : ℕ) (word : Word) → IsWordOf code n word → IsBelowIf n (slot_of word)
word_inside code n (w.Set to a) h = h.0
word_inside code n (w.Op op to a b) h = h.0
word_inside code n (w.Get to of class field) h = h.0
word_inside code n (w.Put of class field a) h = tt
word_inside code n (w.Return a) h = tt

trees_inside : (code : Code) (n : ℕ) (trees : List Tree) → AllByRecursion (IsTreeOf code n) trees → WritesInside n trees
trees_inside code n [] h = tt
trees_inside code n (Do node word ∷ trees) h = (word_inside code n word h.0, trees_inside code n trees h.1)

-- each method writes only slots that it has
pub writes_inside : (code : Code) → IsWellFormed code → (number : ℕ) (m : Method) → method_at code.methods number ≡ Some m → WritesInside (length m.slots) m.body
writes_inside code formed number m is = trees_inside code (length m.slots) m.body (each_method (IsMethodOf code) code.methods number m formed.methods is).words

-- each method has room for `this` and its arguments
pub has_room : (code : Code) → IsWellFormed code → (number : ℕ) (m : Method) → method_at code.methods number ≡ Some m → m.params + 1 ≤ length m.slots
has_room code formed number m is = (each_method (IsMethodOf code) code.methods number m formed.methods is).room

pub few_slots : (code : Code) → IsWellFormed code → (number : ℕ) (m : Method) → method_at code.methods number ≡ Some m → length m.slots ≤ 2 ^ 16
few_slots code formed number m is = each_method HasFewSlots code.methods number m formed.few_slots is

-- ---- the plan

fields_counted : (class : Option Class) → length (fields_of class) ≡ length (fields_in class)
fields_counted None = refl
fields_counted (Some class) = length-map class.fields (λ (f : Field). f.ty)

pub defaults_counted : (code : Code) (class : ℕ) → length (class_defaults code class) ≡ length (fields_in (slice_get code.classes class))
defaults_counted code class = length-map (fields_of (slice_get code.classes class)) default_of ∙ fields_counted (slice_get code.classes class)

pub small_main : (plan : Plan) → IsServable plan → HasSmallMain (Some plan)
small_main plan servable = subst (λ (n : ℕ). n < max_counted) (sym (defaults_counted plan.code plan.code.main)) servable.formed.small_main

pub good_blocks : (plan : Plan) → IsServable plan → AreGoodBlocks plan
good_blocks plan servable = cut_is_good plan servable.blocks (has_no_literal plan.code servable.formed) (all_return plan.code servable.formed)

returns_of : (code : Code) → IsWellFormed code → (m : ℕ) (statements : List Statement) → AreStatements code m statements → ReturnNoLiterals statements
returns_of code formed m [] are = tt
returns_of code formed m (s ∷ statements) are = (returns_none code (length are.0.method.slots) s.word (word_of code formed m s.node s.word are.0), returns_of code formed m statements are.1)

short_of : (code : Code) → IsWellFormed code → (m : ℕ) (statements : List Statement) → AreStatements code m statements → AreShort statements
short_of code formed m [] are = tt
short_of code formed m (s ∷ statements) are = (short_word code (length are.0.method.slots) s.word (word_of code formed m s.node s.word are.0), short_of code formed m statements are.1)

-- no literal reference is returned by a block
pub block_returns_none : (plan : Plan) → IsServable plan → (n : ℕ) (b : Block) → block_at plan.blocks.blocks n ≡ Some b → ReturnNoLiterals b.statements
block_returns_none plan servable n b is = returns_of plan.code servable.formed b.method b.statements (good_blocks plan servable n b is).are

-- the texts of a block are short
pub block_is_short : (plan : Plan) → IsServable plan → (n : ℕ) (b : Block) → block_at plan.blocks.blocks n ≡ Some b → AreShort b.statements
block_is_short plan servable n b is = short_of plan.code servable.formed b.method b.statements (good_blocks plan servable n b is).are

-- an entry has room for `this` and the arguments
pub entry_room : (plan : Plan) (heap : List Object) (method : ℕ) (args : List Value) → IsServable plan → (input : IsInput plan.code heap method args) → length args + 1 ≤ length input.method.slots
entry_room plan heap method args servable input = omega (arith, input.counted, has_room plan.code servable.formed method input.method input.is.is)

-- a call of an entry is served
pub is_served : (plan : Plan) (heap : List Object) (method : ℕ) (args : List Value) → IsServable plan → IsInput plan.code heap method args → IsServed plan heap method args
is_served plan heap method args servable input = record {
  blocks = servable.blocks;
  names = names_classes plan.code servable.formed;
  no_literal = has_no_literal plan.code servable.formed;
  return = all_return plan.code servable.formed;
  input = input;
  room = entry_room plan heap method args servable input;
  inside = writes_inside plan.code servable.formed method input.method input.is.is;
}
