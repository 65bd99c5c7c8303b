-- Statements.
use Rattle.std.proofs.Common.{◌≡◌, ℕ, ◌<◌, ◌^◌, List, [], ◌∷◌, ◌++◌, Option, Some, None, inl, inr, refl, sym, ap, subst, ◌∙◌, codes, arith, decimal, true, false, Bool}
use Rattle.std.specs.Prelude.{⊤}
use Rattle.std.specs.List.{AllByRecursion}
use Rattle.px_value.specs.declared.op.Op.{Op}
use Rattle.px_value.specs.declared.op.Op.TheVariants as op
use Rattle.px_blocks.specs.declared.side.Side.{Side}
use Rattle.px_blocks.specs.declared.side.Side.TheVariants.{App, Db}
use Rattle.px_normal.specs.declared.word.Operand.{Operand}
use Rattle.px_pyxil.specs.declared.names.Member.{Member}
use Rattle.px_pyxil.specs.declared.names.Element.{Element}
use Rattle.px_pyxil.specs.declared.word.Word.{Word}
use Rattle.px_pyxil.specs.declared.word.Word.TheVariants as w
use Rattle.px_pyxil.specs.Words.{side_name, op_name, member_text, element_name, operand_text, operands, operand_if as if_words, slot_text, slot_or_none, words_of}
use Rattle.px_pyxil.specs.Spelling.{spaced}
use Rattle.px_pyxil_reader.specs.declared.verbs.Verb.{Verb}
use Rattle.px_pyxil_reader.specs.declared.verbs.Verb.TheVariants as verb
use Rattle.px_pyxil_reader.specs.Fitting.{IsU16, IsU32, SlotIfFits, IsClass, MemberFits, ElementFits, OperandFits, OperandIfFits, OperandsFit, WordFits}
use Rattle.px_pyxil_reader.specs.Reading.{◌>>=◌, end_at, u16_at, u32_at, slot_at, slot_or_none_at, side_at, class_at, member_at, element_at, op_at, operand_at, operand_of, operand_if, operands_to_end, verb_of}
use Rattle.px_pyxil_reader.specs.Statements.{slot_and_operand, slot_and_two, set_of, op_statement_of, get_of, put_of, load_of, store_of, len_of, new_of, array_of, call_of, query_of, update_of, next_of, long_column_of, text_column_of, print_of, return_of, word_behind}
use Rattle.px_pyxil_reader.proofs.Readers.{bind_some, some_is, HasNo, IsBreak, Reads, reads_of_word, then_again, then_taken, end_taken}
use Rattle.px_pyxil_reader.proofs.NumbersRead.{decimal_bytes, number_has_no, u16_word, u32_word, slot_word, slot_or_none_word}
use Rattle.px_pyxil_reader.proofs.NamesRead.{found, found_taken, side_word, op_word, class_word, class_has_no, member_word, member_has_no, element_word, element_has_no}
use Rattle.px_pyxil_reader.proofs.OperandsRead.{operand_reads, last_again, last_taken, if_again, if_taken, operands_again, operands_taken, breaks}

-- ---- parts of one word

number_plain : (n : ℕ) → n < 2 ^ 64 → HasNo 32 (decimal n)
number_plain n h = number_has_no 32 (decimal n) (inl (omega arith)) (decimal_bytes n h)

slot_plain : (n : ℕ) → IsU16 n → HasNo 32 (slot_text n)
slot_plain n h = (refl, number_plain n (omega (arith, h)))

or_none_plain : (s : Option ℕ) → SlotIfFits s → HasNo 32 (slot_or_none s)
or_none_plain None h = (refl, tt)
or_none_plain (Some n) h = slot_plain n h

side_plain : (s : Side) → HasNo 32 (side_name s)
side_plain App = (refl, (refl, (refl, tt)))
side_plain Db = (refl, (refl, tt))

op_plain : (o : Op) → HasNo 32 (op_name o)
op_plain op.Add = (refl, (refl, (refl, tt)))
op_plain op.Sub = (refl, (refl, (refl, tt)))
op_plain op.Mul = (refl, (refl, (refl, tt)))
op_plain op.Div = (refl, (refl, (refl, tt)))
op_plain op.Rem = (refl, (refl, (refl, tt)))
op_plain op.And = (refl, (refl, (refl, tt)))
op_plain op.Or = (refl, (refl, tt))
op_plain op.Xor = (refl, (refl, (refl, tt)))
op_plain op.Shl = (refl, (refl, (refl, tt)))
op_plain op.Shr = (refl, (refl, (refl, tt)))
op_plain op.Ushr = (refl, (refl, (refl, (refl, tt))))
op_plain op.Lt = (refl, (refl, tt))
op_plain op.Le = (refl, (refl, tt))
op_plain op.Gt = (refl, (refl, tt))
op_plain op.Ge = (refl, (refl, tt))
op_plain op.Eq = (refl, (refl, tt))
op_plain op.Ne = (refl, (refl, tt))
op_plain op.Neg = (refl, (refl, (refl, tt)))
op_plain op.Inv = (refl, (refl, (refl, tt)))
op_plain op.Not = (refl, (refl, (refl, tt)))
op_plain op.Widen = (refl, (refl, (refl, (refl, (refl, tt)))))
op_plain op.Narrow = (refl, (refl, (refl, (refl, (refl, (refl, tt))))))
op_plain op.Concat = (refl, (refl, (refl, (refl, (refl, (refl, tt))))))
op_plain op.Equals = (refl, (refl, (refl, (refl, (refl, (refl, tt))))))
op_plain op.Length = (refl, (refl, (refl, (refl, (refl, (refl, tt))))))

pub u16_reads : Reads IsU16 decimal u16_at
unfolding u16_at
u16_reads = reads_of_word u16_word (λ n h. number_plain n (omega (arith, h)))

pub u32_reads : Reads IsU32 decimal u32_at
unfolding u32_at
u32_reads = reads_of_word u32_word (λ n h. number_plain n (omega (arith, h)))

slot_reads : Reads IsU16 slot_text slot_at
unfolding slot_at
slot_reads = reads_of_word slot_word slot_plain

or_none_reads : Reads SlotIfFits slot_or_none slot_or_none_at
unfolding slot_or_none_at
or_none_reads = reads_of_word slot_or_none_word or_none_plain

pub side_reads : Reads (λ _. ⊤) side_name side_at
unfolding side_at
side_reads = reads_of_word side_word (λ s _. side_plain s)

op_reads : Reads (λ _. ⊤) op_name op_at
unfolding op_at
op_reads = reads_of_word op_word (λ o _. op_plain o)

class_reads : Reads IsClass (λ class. class) class_at
unfolding class_at
class_reads = reads_of_word class_word (λ class h. class_has_no 32 class refl h)

pub member_reads : Reads MemberFits member_text member_at
unfolding member_at
member_reads = reads_of_word member_word (λ m f. member_has_no 32 m refl refl f)

element_reads : Reads ElementFits element_name element_at
unfolding element_at
element_reads = reads_of_word element_word element_has_no

-- ---- what words say

abbrev verbs : List (List ℕ × Verb)
verbs = (codes "set", verb.Set) ∷ (codes "op", verb.Op) ∷ (codes "get", verb.Get) ∷ (codes "put", verb.Put) ∷ (codes "load", verb.Load) ∷ (codes "store", verb.Store) ∷ (codes "len", verb.Len) ∷ (codes "new", verb.New) ∷ (codes "array", verb.Array) ∷ (codes "call", verb.Call) ∷ (codes "query", verb.Query) ∷ (codes "update", verb.Update) ∷ (codes "next", verb.Next) ∷ (codes "long", verb.Long) ∷ (codes "text", verb.Text) ∷ (codes "print", verb.Print) ∷ (codes "return", verb.Return) ∷ []

abbrev pub verb_name : Verb → List ℕ
verb_name verb.Set = codes "set"
verb_name verb.Op = codes "op"
verb_name verb.Get = codes "get"
verb_name verb.Put = codes "put"
verb_name verb.Load = codes "load"
verb_name verb.Store = codes "store"
verb_name verb.Len = codes "len"
verb_name verb.New = codes "new"
verb_name verb.Array = codes "array"
verb_name verb.Call = codes "call"
verb_name verb.Query = codes "query"
verb_name verb.Update = codes "update"
verb_name verb.Next = codes "next"
verb_name verb.Long = codes "long"
verb_name verb.Text = codes "text"
verb_name verb.Print = codes "print"
verb_name verb.Return = codes "return"

pub verb_taken : (word : List ℕ) (v : Verb) → verb_of word ≡ Some v → verb_name v ≡ word
unfolding verb_of
verb_taken word v e = found_taken verb_name verbs word v (refl, (refl, (refl, (refl, (refl, (refl, (refl, (refl, (refl, (refl, (refl, (refl, (refl, (refl, (refl, (refl, (refl, tt))))))))))))))))) e

pub verb_again : (v : Verb) → verb_of (verb_name v) ≡ Some v
unfolding verb_of
verb_again verb.Set = refl
verb_again verb.Op = refl
verb_again verb.Get = refl
verb_again verb.Put = refl
verb_again verb.Load = refl
verb_again verb.Store = refl
verb_again verb.Len = refl
verb_again verb.New = refl
verb_again verb.Array = refl
verb_again verb.Call = refl
verb_again verb.Query = refl
verb_again verb.Update = refl
verb_again verb.Next = refl
verb_again verb.Long = refl
verb_again verb.Text = refl
verb_again verb.Print = refl
verb_again verb.Return = refl

-- ---- steps

-- what stands behind the first word of a statement
abbrev pub Behind : Verb → Word → List ℕ → Type 0
Behind v y bytes = WordFits y × (spaced (words_of y) ≡ 32 ∷ (verb_name v ++ bytes))

abbrev one_word : Word → Option Word
one_word y = Some y

set_of-taken : (bytes : List ℕ) (y : Word) → set_of bytes ≡ Some y → Behind verb.Set y bytes
unfolding set_of
set_of-taken bytes y e =
    then_taken slot_reads (λ bs. Behind verb.Set y bs) (λ p0. operand_at p0.1 >>= λ p1. end_at p1.1 >>= λ _. one_word (w.Set p0.0 p1.0)) bytes y e (λ to r0 f0 h0.
    then_taken operand_reads (λ bs. Behind verb.Set y (32 ∷ (slot_text to ++ bs))) (λ p1. end_at p1.1 >>= λ _. one_word (w.Set to p1.0)) r0 y h0 (λ a r1 f1 h1.
    end_taken (λ z bs. Behind verb.Set z (32 ∷ (slot_text to ++ (32 ∷ (operand_text a ++ bs))))) r1 (w.Set to a) y h1 ((f0, f1), refl)))

set_of-again : (to : ℕ) (a : Operand) → WordFits (w.Set to a) → set_of (32 ∷ (slot_text to ++ (32 ∷ (operand_text a ++ [])))) ≡ Some (w.Set to a)
unfolding set_of
set_of-again to a f =
    then_again slot_reads (λ p0. operand_at p0.1 >>= λ p1. end_at p1.1 >>= λ _. one_word (w.Set p0.0 p1.0)) to (32 ∷ (operand_text a ++ [])) f.0 refl
    ∙ then_again operand_reads (λ p1. end_at p1.1 >>= λ _. one_word (w.Set to p1.0)) a [] f.1 tt

op_statement_of-taken : (bytes : List ℕ) (y : Word) → op_statement_of bytes ≡ Some y → Behind verb.Op y bytes
unfolding op_statement_of
op_statement_of-taken bytes y e =
    then_taken op_reads (λ bs. Behind verb.Op y bs) (λ p0. slot_at p0.1 >>= λ p1. operand_at p1.1 >>= λ p2. operand_if p2.1 >>= λ b. one_word (w.Op p0.0 p1.0 p2.0 b)) bytes y e (λ o r0 f0 h0.
    then_taken slot_reads (λ bs. Behind verb.Op y (32 ∷ (op_name o ++ bs))) (λ p1. operand_at p1.1 >>= λ p2. operand_if p2.1 >>= λ b. one_word (w.Op o p1.0 p2.0 b)) r0 y h0 (λ to r1 f1 h1.
    then_taken operand_reads (λ bs. Behind verb.Op y (32 ∷ (op_name o ++ (32 ∷ (slot_text to ++ bs))))) (λ p2. operand_if p2.1 >>= λ b. one_word (w.Op o to p2.0 b)) r1 y h1 (λ a r2 f2 h2.
    let q = bind_some (operand_if r2) (λ b. one_word (w.Op o to a b)) y h2 in
    subst (λ z. Behind verb.Op z (32 ∷ (op_name o ++ (32 ∷ (slot_text to ++ (32 ∷ (operand_text a ++ r2))))))) (some_is (w.Op o to a q.0) y q.2) (if_taken (λ bs. Behind verb.Op (w.Op o to a q.0) (32 ∷ (op_name o ++ (32 ∷ (slot_text to ++ (32 ∷ (operand_text a ++ bs))))))) r2 q.0 q.1 (λ f3. ((f1, f2, f3), refl))))))

op_statement_of-again : (o : Op) (to : ℕ) (a : Operand) (b : Option Operand) → WordFits (w.Op o to a b) → op_statement_of (32 ∷ (op_name o ++ (32 ∷ (slot_text to ++ (32 ∷ (operand_text a ++ (spaced (if_words b)))))))) ≡ Some (w.Op o to a b)
unfolding op_statement_of
op_statement_of-again o to a b f =
    then_again op_reads (λ p0. slot_at p0.1 >>= λ p1. operand_at p1.1 >>= λ p2. operand_if p2.1 >>= λ b. one_word (w.Op p0.0 p1.0 p2.0 b)) o (32 ∷ (slot_text to ++ (32 ∷ (operand_text a ++ (spaced (if_words b)))))) tt refl
    ∙ then_again slot_reads (λ p1. operand_at p1.1 >>= λ p2. operand_if p2.1 >>= λ b. one_word (w.Op o p1.0 p2.0 b)) to (32 ∷ (operand_text a ++ (spaced (if_words b)))) f.0 refl
    ∙ then_again operand_reads (λ p2. operand_if p2.1 >>= λ b. one_word (w.Op o to p2.0 b)) a (spaced (if_words b)) f.1 (breaks (if_words b))
    ∙ ap (λ r. r >>= λ b. one_word (w.Op o to a b)) (if_again b f.2)

get_of-taken : (bytes : List ℕ) (y : Word) → get_of bytes ≡ Some y → Behind verb.Get y bytes
unfolding get_of
get_of-taken bytes y e =
    then_taken slot_reads (λ bs. Behind verb.Get y bs) (λ p0. operand_at p0.1 >>= λ p1. member_at p1.1 >>= λ p2. end_at p2.1 >>= λ _. one_word (w.Get p0.0 p1.0 p2.0)) bytes y e (λ to r0 f0 h0.
    then_taken operand_reads (λ bs. Behind verb.Get y (32 ∷ (slot_text to ++ bs))) (λ p1. member_at p1.1 >>= λ p2. end_at p2.1 >>= λ _. one_word (w.Get to p1.0 p2.0)) r0 y h0 (λ a r1 f1 h1.
    then_taken member_reads (λ bs. Behind verb.Get y (32 ∷ (slot_text to ++ (32 ∷ (operand_text a ++ bs))))) (λ p2. end_at p2.1 >>= λ _. one_word (w.Get to a p2.0)) r1 y h1 (λ m r2 f2 h2.
    end_taken (λ z bs. Behind verb.Get z (32 ∷ (slot_text to ++ (32 ∷ (operand_text a ++ (32 ∷ (member_text m ++ bs))))))) r2 (w.Get to a m) y h2 ((f0, f1, f2), refl))))

get_of-again : (to : ℕ) (a : Operand) (m : Member) → WordFits (w.Get to a m) → get_of (32 ∷ (slot_text to ++ (32 ∷ (operand_text a ++ (32 ∷ (member_text m ++ [])))))) ≡ Some (w.Get to a m)
unfolding get_of
get_of-again to a m f =
    then_again slot_reads (λ p0. operand_at p0.1 >>= λ p1. member_at p1.1 >>= λ p2. end_at p2.1 >>= λ _. one_word (w.Get p0.0 p1.0 p2.0)) to (32 ∷ (operand_text a ++ (32 ∷ (member_text m ++ [])))) f.0 refl
    ∙ then_again operand_reads (λ p1. member_at p1.1 >>= λ p2. end_at p2.1 >>= λ _. one_word (w.Get to p1.0 p2.0)) a (32 ∷ (member_text m ++ [])) f.1 refl
    ∙ then_again member_reads (λ p2. end_at p2.1 >>= λ _. one_word (w.Get to a p2.0)) m [] f.2 tt

put_of-taken : (bytes : List ℕ) (y : Word) → put_of bytes ≡ Some y → Behind verb.Put y bytes
unfolding put_of
put_of-taken bytes y e =
    then_taken operand_reads (λ bs. Behind verb.Put y bs) (λ p0. member_at p0.1 >>= λ p1. operand_at p1.1 >>= λ p2. end_at p2.1 >>= λ _. one_word (w.Put p0.0 p1.0 p2.0)) bytes y e (λ a r0 f0 h0.
    then_taken member_reads (λ bs. Behind verb.Put y (32 ∷ (operand_text a ++ bs))) (λ p1. operand_at p1.1 >>= λ p2. end_at p2.1 >>= λ _. one_word (w.Put a p1.0 p2.0)) r0 y h0 (λ m r1 f1 h1.
    then_taken operand_reads (λ bs. Behind verb.Put y (32 ∷ (operand_text a ++ (32 ∷ (member_text m ++ bs))))) (λ p2. end_at p2.1 >>= λ _. one_word (w.Put a m p2.0)) r1 y h1 (λ b r2 f2 h2.
    end_taken (λ z bs. Behind verb.Put z (32 ∷ (operand_text a ++ (32 ∷ (member_text m ++ (32 ∷ (operand_text b ++ bs))))))) r2 (w.Put a m b) y h2 ((f0, f1, f2), refl))))

put_of-again : (a : Operand) (m : Member) (b : Operand) → WordFits (w.Put a m b) → put_of (32 ∷ (operand_text a ++ (32 ∷ (member_text m ++ (32 ∷ (operand_text b ++ [])))))) ≡ Some (w.Put a m b)
unfolding put_of
put_of-again a m b f =
    then_again operand_reads (λ p0. member_at p0.1 >>= λ p1. operand_at p1.1 >>= λ p2. end_at p2.1 >>= λ _. one_word (w.Put p0.0 p1.0 p2.0)) a (32 ∷ (member_text m ++ (32 ∷ (operand_text b ++ [])))) f.0 refl
    ∙ then_again member_reads (λ p1. operand_at p1.1 >>= λ p2. end_at p2.1 >>= λ _. one_word (w.Put a p1.0 p2.0)) m (32 ∷ (operand_text b ++ [])) f.1 refl
    ∙ then_again operand_reads (λ p2. end_at p2.1 >>= λ _. one_word (w.Put a m p2.0)) b [] f.2 tt

load_of-taken : (bytes : List ℕ) (y : Word) → load_of bytes ≡ Some y → Behind verb.Load y bytes
unfolding load_of
load_of-taken bytes y e =
    then_taken slot_reads (λ bs. Behind verb.Load y bs) (λ p0. operand_at p0.1 >>= λ p1. operand_at p1.1 >>= λ p2. end_at p2.1 >>= λ _. one_word (w.Load p0.0 p1.0 p2.0)) bytes y e (λ to r0 f0 h0.
    then_taken operand_reads (λ bs. Behind verb.Load y (32 ∷ (slot_text to ++ bs))) (λ p1. operand_at p1.1 >>= λ p2. end_at p2.1 >>= λ _. one_word (w.Load to p1.0 p2.0)) r0 y h0 (λ a r1 f1 h1.
    then_taken operand_reads (λ bs. Behind verb.Load y (32 ∷ (slot_text to ++ (32 ∷ (operand_text a ++ bs))))) (λ p2. end_at p2.1 >>= λ _. one_word (w.Load to a p2.0)) r1 y h1 (λ b r2 f2 h2.
    end_taken (λ z bs. Behind verb.Load z (32 ∷ (slot_text to ++ (32 ∷ (operand_text a ++ (32 ∷ (operand_text b ++ bs))))))) r2 (w.Load to a b) y h2 ((f0, f1, f2), refl))))

load_of-again : (to : ℕ) (a : Operand) (b : Operand) → WordFits (w.Load to a b) → load_of (32 ∷ (slot_text to ++ (32 ∷ (operand_text a ++ (32 ∷ (operand_text b ++ [])))))) ≡ Some (w.Load to a b)
unfolding load_of
load_of-again to a b f =
    then_again slot_reads (λ p0. operand_at p0.1 >>= λ p1. operand_at p1.1 >>= λ p2. end_at p2.1 >>= λ _. one_word (w.Load p0.0 p1.0 p2.0)) to (32 ∷ (operand_text a ++ (32 ∷ (operand_text b ++ [])))) f.0 refl
    ∙ then_again operand_reads (λ p1. operand_at p1.1 >>= λ p2. end_at p2.1 >>= λ _. one_word (w.Load to p1.0 p2.0)) a (32 ∷ (operand_text b ++ [])) f.1 refl
    ∙ then_again operand_reads (λ p2. end_at p2.1 >>= λ _. one_word (w.Load to a p2.0)) b [] f.2 tt

store_of-taken : (bytes : List ℕ) (y : Word) → store_of bytes ≡ Some y → Behind verb.Store y bytes
unfolding store_of
store_of-taken bytes y e =
    then_taken operand_reads (λ bs. Behind verb.Store y bs) (λ p0. operand_at p0.1 >>= λ p1. operand_at p1.1 >>= λ p2. end_at p2.1 >>= λ _. one_word (w.Store p0.0 p1.0 p2.0)) bytes y e (λ a r0 f0 h0.
    then_taken operand_reads (λ bs. Behind verb.Store y (32 ∷ (operand_text a ++ bs))) (λ p1. operand_at p1.1 >>= λ p2. end_at p2.1 >>= λ _. one_word (w.Store a p1.0 p2.0)) r0 y h0 (λ b r1 f1 h1.
    then_taken operand_reads (λ bs. Behind verb.Store y (32 ∷ (operand_text a ++ (32 ∷ (operand_text b ++ bs))))) (λ p2. end_at p2.1 >>= λ _. one_word (w.Store a b p2.0)) r1 y h1 (λ c r2 f2 h2.
    end_taken (λ z bs. Behind verb.Store z (32 ∷ (operand_text a ++ (32 ∷ (operand_text b ++ (32 ∷ (operand_text c ++ bs))))))) r2 (w.Store a b c) y h2 ((f0, f1, f2), refl))))

store_of-again : (a : Operand) (b : Operand) (c : Operand) → WordFits (w.Store a b c) → store_of (32 ∷ (operand_text a ++ (32 ∷ (operand_text b ++ (32 ∷ (operand_text c ++ [])))))) ≡ Some (w.Store a b c)
unfolding store_of
store_of-again a b c f =
    then_again operand_reads (λ p0. operand_at p0.1 >>= λ p1. operand_at p1.1 >>= λ p2. end_at p2.1 >>= λ _. one_word (w.Store p0.0 p1.0 p2.0)) a (32 ∷ (operand_text b ++ (32 ∷ (operand_text c ++ [])))) f.0 refl
    ∙ then_again operand_reads (λ p1. operand_at p1.1 >>= λ p2. end_at p2.1 >>= λ _. one_word (w.Store a p1.0 p2.0)) b (32 ∷ (operand_text c ++ [])) f.1 refl
    ∙ then_again operand_reads (λ p2. end_at p2.1 >>= λ _. one_word (w.Store a b p2.0)) c [] f.2 tt

len_of-taken : (bytes : List ℕ) (y : Word) → len_of bytes ≡ Some y → Behind verb.Len y bytes
unfolding len_of
len_of-taken bytes y e =
    then_taken slot_reads (λ bs. Behind verb.Len y bs) (λ p0. operand_at p0.1 >>= λ p1. end_at p1.1 >>= λ _. one_word (w.Len p0.0 p1.0)) bytes y e (λ to r0 f0 h0.
    then_taken operand_reads (λ bs. Behind verb.Len y (32 ∷ (slot_text to ++ bs))) (λ p1. end_at p1.1 >>= λ _. one_word (w.Len to p1.0)) r0 y h0 (λ a r1 f1 h1.
    end_taken (λ z bs. Behind verb.Len z (32 ∷ (slot_text to ++ (32 ∷ (operand_text a ++ bs))))) r1 (w.Len to a) y h1 ((f0, f1), refl)))

len_of-again : (to : ℕ) (a : Operand) → WordFits (w.Len to a) → len_of (32 ∷ (slot_text to ++ (32 ∷ (operand_text a ++ [])))) ≡ Some (w.Len to a)
unfolding len_of
len_of-again to a f =
    then_again slot_reads (λ p0. operand_at p0.1 >>= λ p1. end_at p1.1 >>= λ _. one_word (w.Len p0.0 p1.0)) to (32 ∷ (operand_text a ++ [])) f.0 refl
    ∙ then_again operand_reads (λ p1. end_at p1.1 >>= λ _. one_word (w.Len to p1.0)) a [] f.1 tt

new_of-taken : (bytes : List ℕ) (y : Word) → new_of bytes ≡ Some y → Behind verb.New y bytes
unfolding new_of
new_of-taken bytes y e =
    then_taken slot_reads (λ bs. Behind verb.New y bs) (λ p0. class_at p0.1 >>= λ p1. u16_at p1.1 >>= λ p2. end_at p2.1 >>= λ _. one_word (w.New p0.0 p1.0 p2.0)) bytes y e (λ to r0 f0 h0.
    then_taken class_reads (λ bs. Behind verb.New y (32 ∷ (slot_text to ++ bs))) (λ p1. u16_at p1.1 >>= λ p2. end_at p2.1 >>= λ _. one_word (w.New to p1.0 p2.0)) r0 y h0 (λ class r1 f1 h1.
    then_taken u16_reads (λ bs. Behind verb.New y (32 ∷ (slot_text to ++ (32 ∷ (class ++ bs))))) (λ p2. end_at p2.1 >>= λ _. one_word (w.New to class p2.0)) r1 y h1 (λ site r2 f2 h2.
    end_taken (λ z bs. Behind verb.New z (32 ∷ (slot_text to ++ (32 ∷ (class ++ (32 ∷ (decimal site ++ bs))))))) r2 (w.New to class site) y h2 ((f0, f1, f2), refl))))

new_of-again : (to : ℕ) (class : List ℕ) (site : ℕ) → WordFits (w.New to class site) → new_of (32 ∷ (slot_text to ++ (32 ∷ (class ++ (32 ∷ (decimal site ++ [])))))) ≡ Some (w.New to class site)
unfolding new_of
new_of-again to class site f =
    then_again slot_reads (λ p0. class_at p0.1 >>= λ p1. u16_at p1.1 >>= λ p2. end_at p2.1 >>= λ _. one_word (w.New p0.0 p1.0 p2.0)) to (32 ∷ (class ++ (32 ∷ (decimal site ++ [])))) f.0 refl
    ∙ then_again class_reads (λ p1. u16_at p1.1 >>= λ p2. end_at p2.1 >>= λ _. one_word (w.New to p1.0 p2.0)) class (32 ∷ (decimal site ++ [])) f.1 refl
    ∙ then_again u16_reads (λ p2. end_at p2.1 >>= λ _. one_word (w.New to class p2.0)) site [] f.2 tt

array_of-taken : (bytes : List ℕ) (y : Word) → array_of bytes ≡ Some y → Behind verb.Array y bytes
unfolding array_of
array_of-taken bytes y e =
    then_taken slot_reads (λ bs. Behind verb.Array y bs) (λ p0. element_at p0.1 >>= λ p1. operand_at p1.1 >>= λ p2. u16_at p2.1 >>= λ p3. end_at p3.1 >>= λ _. one_word (w.Array p0.0 p1.0 p2.0 p3.0)) bytes y e (λ to r0 f0 h0.
    then_taken element_reads (λ bs. Behind verb.Array y (32 ∷ (slot_text to ++ bs))) (λ p1. operand_at p1.1 >>= λ p2. u16_at p2.1 >>= λ p3. end_at p3.1 >>= λ _. one_word (w.Array to p1.0 p2.0 p3.0)) r0 y h0 (λ el r1 f1 h1.
    then_taken operand_reads (λ bs. Behind verb.Array y (32 ∷ (slot_text to ++ (32 ∷ (element_name el ++ bs))))) (λ p2. u16_at p2.1 >>= λ p3. end_at p3.1 >>= λ _. one_word (w.Array to el p2.0 p3.0)) r1 y h1 (λ a r2 f2 h2.
    then_taken u16_reads (λ bs. Behind verb.Array y (32 ∷ (slot_text to ++ (32 ∷ (element_name el ++ (32 ∷ (operand_text a ++ bs))))))) (λ p3. end_at p3.1 >>= λ _. one_word (w.Array to el a p3.0)) r2 y h2 (λ site r3 f3 h3.
    end_taken (λ z bs. Behind verb.Array z (32 ∷ (slot_text to ++ (32 ∷ (element_name el ++ (32 ∷ (operand_text a ++ (32 ∷ (decimal site ++ bs))))))))) r3 (w.Array to el a site) y h3 ((f0, f1, f2, f3), refl)))))

array_of-again : (to : ℕ) (el : Element) (a : Operand) (site : ℕ) → WordFits (w.Array to el a site) → array_of (32 ∷ (slot_text to ++ (32 ∷ (element_name el ++ (32 ∷ (operand_text a ++ (32 ∷ (decimal site ++ [])))))))) ≡ Some (w.Array to el a site)
unfolding array_of
array_of-again to el a site f =
    then_again slot_reads (λ p0. element_at p0.1 >>= λ p1. operand_at p1.1 >>= λ p2. u16_at p2.1 >>= λ p3. end_at p3.1 >>= λ _. one_word (w.Array p0.0 p1.0 p2.0 p3.0)) to (32 ∷ (element_name el ++ (32 ∷ (operand_text a ++ (32 ∷ (decimal site ++ [])))))) f.0 refl
    ∙ then_again element_reads (λ p1. operand_at p1.1 >>= λ p2. u16_at p2.1 >>= λ p3. end_at p3.1 >>= λ _. one_word (w.Array to p1.0 p2.0 p3.0)) el (32 ∷ (operand_text a ++ (32 ∷ (decimal site ++ [])))) f.1 refl
    ∙ then_again operand_reads (λ p2. u16_at p2.1 >>= λ p3. end_at p3.1 >>= λ _. one_word (w.Array to el p2.0 p3.0)) a (32 ∷ (decimal site ++ [])) f.2 refl
    ∙ then_again u16_reads (λ p3. end_at p3.1 >>= λ _. one_word (w.Array to el a p3.0)) site [] f.3 tt

call_of-taken : (bytes : List ℕ) (y : Word) → call_of bytes ≡ Some y → Behind verb.Call y bytes
unfolding call_of
call_of-taken bytes y e =
    then_taken or_none_reads (λ bs. Behind verb.Call y bs) (λ p0. operand_at p0.1 >>= λ p1. member_at p1.1 >>= λ p2. operands_to_end p2.1 >>= λ xs. one_word (w.Call p0.0 p1.0 p2.0 xs)) bytes y e (λ to r0 f0 h0.
    then_taken operand_reads (λ bs. Behind verb.Call y (32 ∷ (slot_or_none to ++ bs))) (λ p1. member_at p1.1 >>= λ p2. operands_to_end p2.1 >>= λ xs. one_word (w.Call to p1.0 p2.0 xs)) r0 y h0 (λ a r1 f1 h1.
    then_taken member_reads (λ bs. Behind verb.Call y (32 ∷ (slot_or_none to ++ (32 ∷ (operand_text a ++ bs))))) (λ p2. operands_to_end p2.1 >>= λ xs. one_word (w.Call to a p2.0 xs)) r1 y h1 (λ m r2 f2 h2.
    let q = bind_some (operands_to_end r2) (λ xs. one_word (w.Call to a m xs)) y h2 in
    subst (λ z. Behind verb.Call z (32 ∷ (slot_or_none to ++ (32 ∷ (operand_text a ++ (32 ∷ (member_text m ++ r2))))))) (some_is (w.Call to a m q.0) y q.2) (operands_taken (λ bs. Behind verb.Call (w.Call to a m q.0) (32 ∷ (slot_or_none to ++ (32 ∷ (operand_text a ++ (32 ∷ (member_text m ++ bs))))))) r2 q.0 q.1 (λ f3. ((f0, f1, f2, f3), refl))))))

call_of-again : (to : Option ℕ) (a : Operand) (m : Member) (xs : List Operand) → WordFits (w.Call to a m xs) → call_of (32 ∷ (slot_or_none to ++ (32 ∷ (operand_text a ++ (32 ∷ (member_text m ++ (spaced (operands xs)))))))) ≡ Some (w.Call to a m xs)
unfolding call_of
call_of-again to a m xs f =
    then_again or_none_reads (λ p0. operand_at p0.1 >>= λ p1. member_at p1.1 >>= λ p2. operands_to_end p2.1 >>= λ xs. one_word (w.Call p0.0 p1.0 p2.0 xs)) to (32 ∷ (operand_text a ++ (32 ∷ (member_text m ++ (spaced (operands xs)))))) f.0 refl
    ∙ then_again operand_reads (λ p1. member_at p1.1 >>= λ p2. operands_to_end p2.1 >>= λ xs. one_word (w.Call to p1.0 p2.0 xs)) a (32 ∷ (member_text m ++ (spaced (operands xs)))) f.1 refl
    ∙ then_again member_reads (λ p2. operands_to_end p2.1 >>= λ xs. one_word (w.Call to a p2.0 xs)) m (spaced (operands xs)) f.2 (breaks (operands xs))
    ∙ ap (λ r. r >>= λ xs. one_word (w.Call to a m xs)) (operands_again xs f.3)

query_of-taken : (bytes : List ℕ) (y : Word) → query_of bytes ≡ Some y → Behind verb.Query y bytes
unfolding query_of
query_of-taken bytes y e =
    then_taken slot_reads (λ bs. Behind verb.Query y bs) (λ p0. u16_at p0.1 >>= λ p1. u16_at p1.1 >>= λ p2. operands_to_end p2.1 >>= λ xs. one_word (w.Query p0.0 p1.0 p2.0 xs)) bytes y e (λ to r0 f0 h0.
    then_taken u16_reads (λ bs. Behind verb.Query y (32 ∷ (slot_text to ++ bs))) (λ p1. u16_at p1.1 >>= λ p2. operands_to_end p2.1 >>= λ xs. one_word (w.Query to p1.0 p2.0 xs)) r0 y h0 (λ statement r1 f1 h1.
    then_taken u16_reads (λ bs. Behind verb.Query y (32 ∷ (slot_text to ++ (32 ∷ (decimal statement ++ bs))))) (λ p2. operands_to_end p2.1 >>= λ xs. one_word (w.Query to statement p2.0 xs)) r1 y h1 (λ site r2 f2 h2.
    let q = bind_some (operands_to_end r2) (λ xs. one_word (w.Query to statement site xs)) y h2 in
    subst (λ z. Behind verb.Query z (32 ∷ (slot_text to ++ (32 ∷ (decimal statement ++ (32 ∷ (decimal site ++ r2))))))) (some_is (w.Query to statement site q.0) y q.2) (operands_taken (λ bs. Behind verb.Query (w.Query to statement site q.0) (32 ∷ (slot_text to ++ (32 ∷ (decimal statement ++ (32 ∷ (decimal site ++ bs))))))) r2 q.0 q.1 (λ f3. ((f0, f1, f2, f3), refl))))))

query_of-again : (to : ℕ) (statement : ℕ) (site : ℕ) (xs : List Operand) → WordFits (w.Query to statement site xs) → query_of (32 ∷ (slot_text to ++ (32 ∷ (decimal statement ++ (32 ∷ (decimal site ++ (spaced (operands xs)))))))) ≡ Some (w.Query to statement site xs)
unfolding query_of
query_of-again to statement site xs f =
    then_again slot_reads (λ p0. u16_at p0.1 >>= λ p1. u16_at p1.1 >>= λ p2. operands_to_end p2.1 >>= λ xs. one_word (w.Query p0.0 p1.0 p2.0 xs)) to (32 ∷ (decimal statement ++ (32 ∷ (decimal site ++ (spaced (operands xs)))))) f.0 refl
    ∙ then_again u16_reads (λ p1. u16_at p1.1 >>= λ p2. operands_to_end p2.1 >>= λ xs. one_word (w.Query to p1.0 p2.0 xs)) statement (32 ∷ (decimal site ++ (spaced (operands xs)))) f.1 refl
    ∙ then_again u16_reads (λ p2. operands_to_end p2.1 >>= λ xs. one_word (w.Query to statement p2.0 xs)) site (spaced (operands xs)) f.2 (breaks (operands xs))
    ∙ ap (λ r. r >>= λ xs. one_word (w.Query to statement site xs)) (operands_again xs f.3)

update_of-taken : (bytes : List ℕ) (y : Word) → update_of bytes ≡ Some y → Behind verb.Update y bytes
unfolding update_of
update_of-taken bytes y e =
    then_taken slot_reads (λ bs. Behind verb.Update y bs) (λ p0. u16_at p0.1 >>= λ p1. operands_to_end p1.1 >>= λ xs. one_word (w.Update p0.0 p1.0 xs)) bytes y e (λ to r0 f0 h0.
    then_taken u16_reads (λ bs. Behind verb.Update y (32 ∷ (slot_text to ++ bs))) (λ p1. operands_to_end p1.1 >>= λ xs. one_word (w.Update to p1.0 xs)) r0 y h0 (λ statement r1 f1 h1.
    let q = bind_some (operands_to_end r1) (λ xs. one_word (w.Update to statement xs)) y h1 in
    subst (λ z. Behind verb.Update z (32 ∷ (slot_text to ++ (32 ∷ (decimal statement ++ r1))))) (some_is (w.Update to statement q.0) y q.2) (operands_taken (λ bs. Behind verb.Update (w.Update to statement q.0) (32 ∷ (slot_text to ++ (32 ∷ (decimal statement ++ bs))))) r1 q.0 q.1 (λ f2. ((f0, f1, f2), refl)))))

update_of-again : (to : ℕ) (statement : ℕ) (xs : List Operand) → WordFits (w.Update to statement xs) → update_of (32 ∷ (slot_text to ++ (32 ∷ (decimal statement ++ (spaced (operands xs)))))) ≡ Some (w.Update to statement xs)
unfolding update_of
update_of-again to statement xs f =
    then_again slot_reads (λ p0. u16_at p0.1 >>= λ p1. operands_to_end p1.1 >>= λ xs. one_word (w.Update p0.0 p1.0 xs)) to (32 ∷ (decimal statement ++ (spaced (operands xs)))) f.0 refl
    ∙ then_again u16_reads (λ p1. operands_to_end p1.1 >>= λ xs. one_word (w.Update to p1.0 xs)) statement (spaced (operands xs)) f.1 (breaks (operands xs))
    ∙ ap (λ r. r >>= λ xs. one_word (w.Update to statement xs)) (operands_again xs f.2)

next_of-taken : (bytes : List ℕ) (y : Word) → next_of bytes ≡ Some y → Behind verb.Next y bytes
unfolding next_of
next_of-taken bytes y e =
    then_taken slot_reads (λ bs. Behind verb.Next y bs) (λ p0. operand_at p0.1 >>= λ p1. end_at p1.1 >>= λ _. one_word (w.Next p0.0 p1.0)) bytes y e (λ to r0 f0 h0.
    then_taken operand_reads (λ bs. Behind verb.Next y (32 ∷ (slot_text to ++ bs))) (λ p1. end_at p1.1 >>= λ _. one_word (w.Next to p1.0)) r0 y h0 (λ a r1 f1 h1.
    end_taken (λ z bs. Behind verb.Next z (32 ∷ (slot_text to ++ (32 ∷ (operand_text a ++ bs))))) r1 (w.Next to a) y h1 ((f0, f1), refl)))

next_of-again : (to : ℕ) (a : Operand) → WordFits (w.Next to a) → next_of (32 ∷ (slot_text to ++ (32 ∷ (operand_text a ++ [])))) ≡ Some (w.Next to a)
unfolding next_of
next_of-again to a f =
    then_again slot_reads (λ p0. operand_at p0.1 >>= λ p1. end_at p1.1 >>= λ _. one_word (w.Next p0.0 p1.0)) to (32 ∷ (operand_text a ++ [])) f.0 refl
    ∙ then_again operand_reads (λ p1. end_at p1.1 >>= λ _. one_word (w.Next to p1.0)) a [] f.1 tt

long_column_of-taken : (bytes : List ℕ) (y : Word) → long_column_of bytes ≡ Some y → Behind verb.Long y bytes
unfolding long_column_of
long_column_of-taken bytes y e =
    then_taken slot_reads (λ bs. Behind verb.Long y bs) (λ p0. operand_at p0.1 >>= λ p1. operand_at p1.1 >>= λ p2. end_at p2.1 >>= λ _. one_word (w.Long p0.0 p1.0 p2.0)) bytes y e (λ to r0 f0 h0.
    then_taken operand_reads (λ bs. Behind verb.Long y (32 ∷ (slot_text to ++ bs))) (λ p1. operand_at p1.1 >>= λ p2. end_at p2.1 >>= λ _. one_word (w.Long to p1.0 p2.0)) r0 y h0 (λ a r1 f1 h1.
    then_taken operand_reads (λ bs. Behind verb.Long y (32 ∷ (slot_text to ++ (32 ∷ (operand_text a ++ bs))))) (λ p2. end_at p2.1 >>= λ _. one_word (w.Long to a p2.0)) r1 y h1 (λ b r2 f2 h2.
    end_taken (λ z bs. Behind verb.Long z (32 ∷ (slot_text to ++ (32 ∷ (operand_text a ++ (32 ∷ (operand_text b ++ bs))))))) r2 (w.Long to a b) y h2 ((f0, f1, f2), refl))))

long_column_of-again : (to : ℕ) (a : Operand) (b : Operand) → WordFits (w.Long to a b) → long_column_of (32 ∷ (slot_text to ++ (32 ∷ (operand_text a ++ (32 ∷ (operand_text b ++ [])))))) ≡ Some (w.Long to a b)
unfolding long_column_of
long_column_of-again to a b f =
    then_again slot_reads (λ p0. operand_at p0.1 >>= λ p1. operand_at p1.1 >>= λ p2. end_at p2.1 >>= λ _. one_word (w.Long p0.0 p1.0 p2.0)) to (32 ∷ (operand_text a ++ (32 ∷ (operand_text b ++ [])))) f.0 refl
    ∙ then_again operand_reads (λ p1. operand_at p1.1 >>= λ p2. end_at p2.1 >>= λ _. one_word (w.Long to p1.0 p2.0)) a (32 ∷ (operand_text b ++ [])) f.1 refl
    ∙ then_again operand_reads (λ p2. end_at p2.1 >>= λ _. one_word (w.Long to a p2.0)) b [] f.2 tt

text_column_of-taken : (bytes : List ℕ) (y : Word) → text_column_of bytes ≡ Some y → Behind verb.Text y bytes
unfolding text_column_of
text_column_of-taken bytes y e =
    then_taken slot_reads (λ bs. Behind verb.Text y bs) (λ p0. operand_at p0.1 >>= λ p1. operand_at p1.1 >>= λ p2. end_at p2.1 >>= λ _. one_word (w.Text p0.0 p1.0 p2.0)) bytes y e (λ to r0 f0 h0.
    then_taken operand_reads (λ bs. Behind verb.Text y (32 ∷ (slot_text to ++ bs))) (λ p1. operand_at p1.1 >>= λ p2. end_at p2.1 >>= λ _. one_word (w.Text to p1.0 p2.0)) r0 y h0 (λ a r1 f1 h1.
    then_taken operand_reads (λ bs. Behind verb.Text y (32 ∷ (slot_text to ++ (32 ∷ (operand_text a ++ bs))))) (λ p2. end_at p2.1 >>= λ _. one_word (w.Text to a p2.0)) r1 y h1 (λ b r2 f2 h2.
    end_taken (λ z bs. Behind verb.Text z (32 ∷ (slot_text to ++ (32 ∷ (operand_text a ++ (32 ∷ (operand_text b ++ bs))))))) r2 (w.Text to a b) y h2 ((f0, f1, f2), refl))))

text_column_of-again : (to : ℕ) (a : Operand) (b : Operand) → WordFits (w.Text to a b) → text_column_of (32 ∷ (slot_text to ++ (32 ∷ (operand_text a ++ (32 ∷ (operand_text b ++ [])))))) ≡ Some (w.Text to a b)
unfolding text_column_of
text_column_of-again to a b f =
    then_again slot_reads (λ p0. operand_at p0.1 >>= λ p1. operand_at p1.1 >>= λ p2. end_at p2.1 >>= λ _. one_word (w.Text p0.0 p1.0 p2.0)) to (32 ∷ (operand_text a ++ (32 ∷ (operand_text b ++ [])))) f.0 refl
    ∙ then_again operand_reads (λ p1. operand_at p1.1 >>= λ p2. end_at p2.1 >>= λ _. one_word (w.Text to p1.0 p2.0)) a (32 ∷ (operand_text b ++ [])) f.1 refl
    ∙ then_again operand_reads (λ p2. end_at p2.1 >>= λ _. one_word (w.Text to a p2.0)) b [] f.2 tt

print_of-taken : (bytes : List ℕ) (y : Word) → print_of bytes ≡ Some y → Behind verb.Print y bytes
unfolding print_of
print_of-taken bytes y e =
    let q = bind_some (operand_of bytes) (λ a. one_word (w.Print a)) y e in
    subst (λ z. Behind verb.Print z bytes) (some_is (w.Print q.0) y q.2) (last_taken (λ bs. Behind verb.Print (w.Print q.0) bs) bytes q.0 q.1 (λ f. (f, refl)))

print_of-again : (a : Operand) → OperandFits a → print_of (32 ∷ (operand_text a ++ [])) ≡ Some (w.Print a)
unfolding print_of
print_of-again a f = ap (λ o. o >>= λ a. one_word (w.Print a)) (last_again a f)

return_of-taken : (bytes : List ℕ) (y : Word) → return_of bytes ≡ Some y → Behind verb.Return y bytes
unfolding return_of
return_of-taken bytes y e =
    let q = bind_some (operand_if bytes) (λ a. one_word (w.Return a)) y e in
    subst (λ z. Behind verb.Return z bytes) (some_is (w.Return q.0) y q.2) (if_taken (λ bs. Behind verb.Return (w.Return q.0) bs) bytes q.0 q.1 (λ f. (f, refl)))

return_of-again : (a : Option Operand) → OperandIfFits a → return_of (spaced (if_words a)) ≡ Some (w.Return a)
unfolding return_of
return_of-again a f = ap (λ o. o >>= λ a. one_word (w.Return a)) (if_again a f)

-- ---- all statements

pub word_taken : (v : Verb) (bytes : List ℕ) (y : Word) → word_behind v bytes ≡ Some y → Behind v y bytes
word_taken verb.Set bytes y e = set_of-taken bytes y e
word_taken verb.Op bytes y e = op_statement_of-taken bytes y e
word_taken verb.Get bytes y e = get_of-taken bytes y e
word_taken verb.Put bytes y e = put_of-taken bytes y e
word_taken verb.Load bytes y e = load_of-taken bytes y e
word_taken verb.Store bytes y e = store_of-taken bytes y e
word_taken verb.Len bytes y e = len_of-taken bytes y e
word_taken verb.New bytes y e = new_of-taken bytes y e
word_taken verb.Array bytes y e = array_of-taken bytes y e
word_taken verb.Call bytes y e = call_of-taken bytes y e
word_taken verb.Query bytes y e = query_of-taken bytes y e
word_taken verb.Update bytes y e = update_of-taken bytes y e
word_taken verb.Next bytes y e = next_of-taken bytes y e
word_taken verb.Long bytes y e = long_column_of-taken bytes y e
word_taken verb.Text bytes y e = text_column_of-taken bytes y e
word_taken verb.Print bytes y e = print_of-taken bytes y e
word_taken verb.Return bytes y e = return_of-taken bytes y e

-- the first word of a statement, and what stands behind it
abbrev pub verb_in : Word → Verb
verb_in (w.Set a b) = verb.Set
verb_in (w.Op a b c d) = verb.Op
verb_in (w.Get a b c) = verb.Get
verb_in (w.Put a b c) = verb.Put
verb_in (w.Load a b c) = verb.Load
verb_in (w.Store a b c) = verb.Store
verb_in (w.Len a b) = verb.Len
verb_in (w.New a b c) = verb.New
verb_in (w.Array a b c d) = verb.Array
verb_in (w.Call a b c d) = verb.Call
verb_in (w.Query a b c d) = verb.Query
verb_in (w.Update a b c) = verb.Update
verb_in (w.Next a b) = verb.Next
verb_in (w.Long a b c) = verb.Long
verb_in (w.Text a b c) = verb.Text
verb_in (w.Print a) = verb.Print
verb_in (w.Return a) = verb.Return

-- the words behind the first
abbrev rest_of : List (List ℕ) → List (List ℕ)
rest_of [] = []
rest_of (word ∷ words) = words

abbrev pub behind_verb : Word → List ℕ
behind_verb y = spaced (rest_of (words_of y))

pub word_again : (y : Word) → WordFits y → word_behind (verb_in y) (behind_verb y) ≡ Some y
word_again (w.Set a b) f = set_of-again a b f
word_again (w.Op a b c d) f = op_statement_of-again a b c d f
word_again (w.Get a b c) f = get_of-again a b c f
word_again (w.Put a b c) f = put_of-again a b c f
word_again (w.Load a b c) f = load_of-again a b c f
word_again (w.Store a b c) f = store_of-again a b c f
word_again (w.Len a b) f = len_of-again a b f
word_again (w.New a b c) f = new_of-again a b c f
word_again (w.Array a b c d) f = array_of-again a b c d f
word_again (w.Call a b c d) f = call_of-again a b c d f
word_again (w.Query a b c d) f = query_of-again a b c d f
word_again (w.Update a b c) f = update_of-again a b c f
word_again (w.Next a b) f = next_of-again a b f
word_again (w.Long a b c) f = long_column_of-again a b c f
word_again (w.Text a b c) f = text_column_of-again a b c f
word_again (w.Print a) f = print_of-again a f
word_again (w.Return a) f = return_of-again a f

pub words_are : (y : Word) → spaced (words_of y) ≡ 32 ∷ (verb_name (verb_in y) ++ behind_verb y)
words_are (w.Set a b) = refl
words_are (w.Op a b c d) = refl
words_are (w.Get a b c) = refl
words_are (w.Put a b c) = refl
words_are (w.Load a b c) = refl
words_are (w.Store a b c) = refl
words_are (w.Len a b) = refl
words_are (w.New a b c) = refl
words_are (w.Array a b c d) = refl
words_are (w.Call a b c d) = refl
words_are (w.Query a b c d) = refl
words_are (w.Update a b c) = refl
words_are (w.Next a b) = refl
words_are (w.Long a b c) = refl
words_are (w.Text a b c) = refl
words_are (w.Print a) = refl
words_are (w.Return a) = refl

pub verb_plain : (v : Verb) → HasNo 32 (verb_name v)
verb_plain verb.Set = (refl, (refl, (refl, tt)))
verb_plain verb.Op = (refl, (refl, tt))
verb_plain verb.Get = (refl, (refl, (refl, tt)))
verb_plain verb.Put = (refl, (refl, (refl, tt)))
verb_plain verb.Load = (refl, (refl, (refl, (refl, tt))))
verb_plain verb.Store = (refl, (refl, (refl, (refl, (refl, tt)))))
verb_plain verb.Len = (refl, (refl, (refl, tt)))
verb_plain verb.New = (refl, (refl, (refl, tt)))
verb_plain verb.Array = (refl, (refl, (refl, (refl, (refl, tt)))))
verb_plain verb.Call = (refl, (refl, (refl, (refl, tt))))
verb_plain verb.Query = (refl, (refl, (refl, (refl, (refl, tt)))))
verb_plain verb.Update = (refl, (refl, (refl, (refl, (refl, (refl, tt))))))
verb_plain verb.Next = (refl, (refl, (refl, (refl, tt))))
verb_plain verb.Long = (refl, (refl, (refl, (refl, tt))))
verb_plain verb.Text = (refl, (refl, (refl, (refl, tt))))
verb_plain verb.Print = (refl, (refl, (refl, (refl, (refl, tt)))))
verb_plain verb.Return = (refl, (refl, (refl, (refl, (refl, (refl, tt))))))

pub behind_breaks : (y : Word) → IsBreak (behind_verb y)
behind_breaks y = breaks (rest_of (words_of y))
