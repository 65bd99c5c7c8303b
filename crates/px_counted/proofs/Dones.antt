-- What is counted of statements, whose parts leave nothing behind: a last word behind operands, one statement after another, and marks of their own.
use Rattle.std.proofs.Common.{◌≡◌, ℕ, ◌+◌, ◌≤◌, List, [], ◌∷◌, ◌++◌, length, append-nil, refl, sym, ◌∙◌, subst, le_of_eq, le_trans, arith}
use Rattle.px_value.specs.declared.value.Value.{Value}
use Rattle.px_value.specs.declared.value.Value.TheVariants.{Null}
use Rattle.px_value.specs.Outcome.{Outcome, Gives, Throws, Asks, then_run, ◌>>=◌, pure, Flow, Goes, Returns, goes_on}
use Rattle.px_facts.specs.declared.checked.Checked.{Checked}
use Rattle.px_effects.specs.Run.{Ask}
use Rattle.px_mean.specs.Run.{Frame as SourceFrame, Here as SourceHere}
use Rattle.px_mean.specs.Expressions.{Calls as SourceCalls}
use Rattle.px_mean.specs.Statements.{goes}
use Rattle.px_normal.specs.declared.node.Counter.{Counter}
use Rattle.px_normal.specs.declared.node.Counter.TheVariants.{Begun}
use Rattle.px_normal.specs.declared.word.Word.{Word}
use Rattle.px_normal.specs.declared.method.Tree.{Tree}
use Rattle.px_normal.specs.declared.method.Tree.TheVariants.{Do}
use Rattle.px_normal.specs.declared.code.Code.{Code}
use Rattle.px_normal.specs.First.{Slots}
use Rattle.px_normal.specs.Run.{Frame}
use Rattle.px_normal.specs.Words.{does_of}
use Rattle.px_normal.specs.CodeRun.{Calls, body_run}
use Rattle.px_lowering.specs.declared.draft.Draft.{Draft}
use Rattle.px_lowering.specs.Emit.{Operated, node_at, emitted}
use Rattle.px_counts.specs.Marks as mark
use Rattle.px_counts.specs.Marks.{Marked}
use Rattle.px_counts.specs.Runs.{completed, marked_does}
use Rattle.px_counts.proofs.Unmarked.{unmarked_frame, SameHere}
use Rattle.px_preservation.proofs.Meets.{Meets}
use Rattle.px_preservation.proofs.Agree.{Agree, Shares, IsDone}
use Rattle.px_preservation.proofs.Runs.{run_append}
use Rattle.px_counted.specs.Laws.{NeverThrows}
use Rattle.px_counted.proofs.Counts.{AreBehind, Counted, with_mark, mark_behind, counted_bind}
use Rattle.px_counted.proofs.Keeps.{KeepsHere}
use Rattle.px_counted.proofs.Steps.{IsWork, word_counted}
use Rattle.px_counted.proofs.Pieces.{same_rest, joined, IsKnown, known_front, Grows, grows_none, grows_one, grows_then, grows_more, hit_counter, from_one}
use Rattle.px_counted.proofs.Shares.{alone_of}
use Rattle.px_counted.proofs.Operands.{IsLate, CountsOperand, then_counts}
use Rattle.px_counted.proofs.Values.{M, F, H, R, begins, completes, begins_once, with_trees}
use Rattle.px_counted.proofs.Slots.{CountsPart}

module _ (Q W : Type 0) (ask : Ask Q W) (never : NeverThrows Q W ask) (P : Checked) (code : Code) (source_calls : SourceCalls Q W) (calls : Calls Q W) (n k : ℕ) (counter : Counter) where
  abbrev HereM : Type 0 → Type 0
  HereM A = M Q W ask never P code source_calls calls n k counter A

  abbrev Fs : Draft → ℕ
  Fs o = F Q W ask never P code source_calls calls n k counter o

  abbrev Hs : ℕ → ℕ
  Hs node = H Q W ask never P code source_calls calls n k counter node

  abbrev Rs : {A : Type 0} → (high before after : ℕ) → HereM A → List Tree → Type 0
  Rs = R Q W ask never P code source_calls calls n k counter

  abbrev Op : (given id inner : ℕ) → HereM Value → SourceHere Q W Value → Draft → Operated → Type 0
  Op = CountsOperand Q W ask P code source_calls calls n k counter

  abbrev B : ℕ → ℕ
  B id = begins Q W ask never P code source_calls calls n k counter id

  abbrev D : ℕ → ℕ
  D id = completes Q W ask never P code source_calls calls n k counter id

  abbrev C : {A : Type 0} → Outcome Q (SourceFrame (Marked W)) A → Outcome Q (Frame W) (Flow Value) → Type 0
  C o p = Counted Q W k counter 0 o p

  abbrev run : List Tree → Frame W → Outcome Q (Frame W) (Flow Value)
  run = body_run code ask calls

  -- Behind a draft, where the counter's number is given so often: if the node is among the new ones as often, nothing is left behind.
  pub record CountsDone (A : Type 0) (given : ℕ) (r : HereM A) (o o' : Draft) : Type 0 where
    pub grows : Grows Q W k counter given o.nodes o'.nodes
    pub counts : (trees : List Tree) → o'.trees ≡ o.trees ++ trees → IsKnown Q W k counter o'.nodes → Fs o' ≡ Fs o + given → Rs (length o'.slots) 0 0 r trees

  moved : {A : Type 0} (high : ℕ) (r : HereM A) (o o' : Draft) (ts us : List Tree) → o'.trees ≡ o.trees ++ ts → o'.trees ≡ o.trees ++ us → Rs high 0 0 r ts → Rs high 0 0 r us
  moved high r o o' ts us a b h = with_trees Q W ask never P code source_calls calls n k counter high 0 0 r ts us (same_rest o'.trees o.trees ts us a b) h

  -- numbers that are given where nothing is lowered
  pub more_done : (A : Type 0) (g m : ℕ) (r : HereM A) (o o' : Draft) → g ≤ m → CountsDone A g r o o' → CountsDone A m r o o'
  more_done A g m r o o' le h = record {
    grows = grows_more Q W k counter g m o.nodes o'.nodes le h.grows;
    counts = λ trees are known eq. let most = h.grows.few known in h.counts trees are known (omega (arith, le, most, eq));
  }

  pub pure_done : (A : Type 0) (a : A) (o : Draft) → CountsDone A 0 (pure a) o o
  pure_done A a o = record {
    grows = grows_none Q W k counter 0 o.nodes;
    counts = λ trees are known eq. moved (length o.slots) (pure a) o o [] trees (sym (append-nil o.trees)) are (λ s c g size j. j);
  }

  -- ---- what follows and only changes locals

  abbrev pub Leaves : (A B : Type 0) → (A → HereM B) → Type 0
  Leaves A B f = (a : A) (s : SourceFrame (Marked W)) → (b : B) × (locals : List Value) × (f a s ≡ Gives b (record { locals = locals; shared = s.shared }))

  leaves_at : (A B : Type 0) (f : A → HereM B) → Leaves A B f → (o : Outcome Q (SourceFrame (Marked W)) A) (p : Outcome Q (Frame W) (Flow Value)) → C o p → C (then_run o f) p
  leaves_at A B f quiet (Gives a s) p h = subst (λ (x : Outcome Q (SourceFrame (Marked W)) B). C x p) (sym ((quiet a s).2)) (again p h)
    where
      again : (p : Outcome Q (Frame W) (Flow Value)) → C (Gives a s) p → C (Gives ((quiet a s).0) (record { locals = (quiet a s).1; shared = s.shared })) p
      again (Gives b c) h = h
      again (Throws t c) h = tt
      again (Asks q c) h = tt
  leaves_at A B f quiet (Throws t s) (Gives b c) h = tt
  leaves_at A B f quiet (Throws t s) (Throws u c) h = h
  leaves_at A B f quiet (Throws t s) (Asks q c) h = tt
  leaves_at A B f quiet (Asks q s) p h = tt

  pub then_leaves : (A B : Type 0) (high : ℕ) (r : HereM A) (f : A → HereM B) (ts : List Tree) → Leaves A B f → Rs high 0 0 r ts → Rs high 0 0 (r >>= f) ts
  then_leaves A B high r f ts quiet h = λ s c g size j. leaves_at A B f quiet (r s) (run ts c) (h s c g size j)

  pub leaves_done : (A B : Type 0) (g : ℕ) (r : HereM A) (f : A → HereM B) (o o' : Draft) → Leaves A B f → CountsDone A g r o o' → CountsDone B g (r >>= f) o o'
  leaves_done A B g r f o o' quiet h = record {
    grows = h.grows;
    counts = λ trees are known eq. then_leaves A B (length o'.slots) r f trees quiet (h.counts trees are known eq);
  }

  pub goes_counts : (A : Type 0) (g : ℕ) (r : HereM A) (o o' : Draft) → CountsDone A g r o o' → CountsDone (Flow Value) g (goes r) o o'
  goes_counts A g r o o' h = leaves_done A (Flow Value) g r (λ a. pure Goes) o o' (λ a s. (Goes, s.locals, refl)) h

  -- ---- operands

  -- a part of an expression, of which nothing is left
  pub part_done : (g id inner : ℕ) (r : HereM Value) (o o' : Draft) (ts : List Tree) → o'.trees ≡ o.trees ++ ts → ((trees : List Tree) → o'.trees ≡ o.trees ++ trees → CountsPart Q W ask never P code source_calls calls n k counter g id inner r o o' trees) → CountsDone Value g r o o'
  part_done g id inner r o o' ts are h = record {
    grows = (h ts are).grows;
    counts = λ trees e known eq. (h trees e).counts known 0 (omega (arith, eq)) (λ l. absurd (omega (arith, l)));
  }

  -- an operand alone
  pub only_done : (g id inner : ℕ) (r : HereM Value) (r1 : SourceHere Q W Value) (o : Draft) (a : Operated) → Op g id inner r r1 o a → CountsDone Value g r o a.out
  only_done g id inner r r1 o a i = record {
    grows = i.grows;
    counts = λ trees are known eq. moved (length a.out.slots) r o a.out i.plain.trees trees i.plain.trees_are are (i.counts known 0 (omega (arith, eq)) (λ l. absurd (omega (arith, l))));
  }

  -- an operand, and then the rest
  pub operand_done : (A : Type 0) (g id inner m : ℕ) (r : HereM Value) (r1 : SourceHere Q W Value) (o : Draft) (a : Operated) → Op g id inner r r1 o a → n ≤ length o.slots → (f : Value → HereM A) (o' : Draft) → length a.out.slots ≤ length o'.slots → (rest : List Tree) → o'.trees ≡ a.out.trees ++ rest → ((v : Value) → CountsDone A m (f v) a.out o') → CountsDone A (g + m) (r >>= f) o o'
  operand_done A g id inner m r r1 o a i above f o' wide rest are h =
      let next = (h Null).grows in
      record {
        grows = grows_then Q W k counter g m (g + m) o.nodes a.out.nodes o'.nodes refl i.grows next;
        counts = λ trees all known eq.
            let known1 = known_front Q W k counter a.out.nodes next.more o'.nodes next.nodes_are known in
            let most1 = i.grows.few known1 in
            let most2 = next.few known in
            let first : Fs a.out + 0 ≡ Fs o + g = omega (arith, most1, most2, eq) in
            let second : Fs o' ≡ Fs a.out + m = omega (arith, most1, most2, eq) in
            moved (length o'.slots) (r >>= f) o o' (i.plain.trees ++ rest) trees (joined o.trees a.out.trees o'.trees i.plain.trees rest i.plain.trees_are are) all
            (then_counts Q W ask P code source_calls calls n k counter g id inner r r1 o a i above known1 0 first (λ l. absurd (omega (arith, l))) rest f 0 (length o'.slots) wide
            (λ v s c value agree size j. (h v).counts rest are known second s c agree size j));
      }

  abbrev Works : Word → Type 0
  Works word = (slots : Slots) → IsWork Q W ask code calls k counter never (does_of code word slots)

  -- a last word behind an operand
  pub word_done : (A : Type 0) (g id inner : ℕ) (r : HereM Value) (r1 : SourceHere Q W Value) (o : Draft) (a : Operated) → Op g id inner r r1 o a → n ≤ length o.slots → (f : Value → HereM A) → ((v : Value) → KeepsHere Q W A (f v)) → (word : Word) → Works word → (token : ℕ) (y : Counter) → (counter ≡ y → IsLate counter id inner) → CountsDone A g (r >>= f) o (emitted P word token y a.out)
  word_done A g id inner r r1 o a i above f keeps word works token y late =
      let node = length a.out.nodes + 1 in
      let one = node_at P a.out.method token y in
      record {
        grows = grows_one Q W k counter g o.nodes a.out.nodes one y refl (λ e. i.late (late e)) i.grows;
        counts = λ trees all known eq.
            let new = from_one Q W k counter a.out.nodes one in
            let known1 = known_front Q W k counter a.out.nodes (one ∷ []) (a.out.nodes ++ one ∷ []) refl known in
            let sum : Fs a.out + Hs node ≡ Fs o + g = sym new ∙ eq in
            moved (length a.out.slots) (r >>= f) o (emitted P word token y a.out) (i.plain.trees ++ Do node word ∷ []) trees (joined o.trees a.out.trees (a.out.trees ++ Do node word ∷ []) i.plain.trees (Do node word ∷ []) i.plain.trees_are refl) all
            (then_counts Q W ask P code source_calls calls n k counter g id inner r r1 o a i above known1 (Hs node) sum (λ l. late (hit_counter Q W k counter a.out.nodes one y refl known l)) (Do node word ∷ []) f 0 (length a.out.slots) (omega (arith))
            (λ v s c value agree size j. word_counted Q W ask code calls k counter never A node word (f v) s c (keeps v) (works c.locals) j));
      }

  -- ---- one statement after another

  later : (q : HereM (Flow Value)) (us : List Tree) (f f' : Flow Value) (s : SourceFrame (Marked W)) (c : Frame W) → f' ≡ f → AreBehind Q W k counter 0 s c → C (q s) (run us c) → C (goes_on q f s) (goes_on (run us) f' c)
  later q us f f' s c e j h = subst (λ (x : Flow Value). C (goes_on q f s) (goes_on (run us) x c)) (sym e) (by f)
    where
      by : (f : Flow Value) → C (goes_on q f s) (goes_on (run us) f c)
      by Goes = h
      by (Returns v) = j

  pub seq_counts : (g m : ℕ) (r q : HereM (Flow Value)) (r1 : SourceHere Q W (Flow Value)) (o o1 o2 : Draft) → SameHere Q W (Flow Value) r r1 → IsDone Q W ask P code source_calls calls n r1 o o1 → length o1.slots ≤ length o2.slots → (rest : List Tree) → o2.trees ≡ o1.trees ++ rest → CountsDone (Flow Value) g r o o1 → CountsDone (Flow Value) m q o1 o2 → CountsDone (Flow Value) (g + m) (r >>= goes_on q) o o2
  seq_counts g m r q r1 o o1 o2 same plain wide rest are h h' = record {
    grows = grows_then Q W k counter g m (g + m) o.nodes o1.nodes o2.nodes refl h.grows h'.grows;
    counts = λ trees all known eq.
        let known1 = known_front Q W k counter o1.nodes h'.grows.more o2.nodes h'.grows.nodes_are known in
        let most1 = h.grows.few known1 in
        let most2 = h'.grows.few known in
        let first : Fs o1 ≡ Fs o + g = omega (arith, most1, most2, eq) in
        let second : Fs o2 ≡ Fs o1 + m = omega (arith, most1, most2, eq) in
        moved (length o2.slots) (r >>= goes_on q) o o2 (plain.trees ++ rest) trees (joined o.trees o1.trees o2.trees plain.trees rest plain.trees_are are) all
        (λ s c agree size j.
        let size1 : length o1.slots ≤ length c.locals = le_trans wide size in
        let met = plain.meets (unmarked_frame Q W s) c agree size1 in
        let there = subst (λ (y : Outcome Q (SourceFrame W) (Flow Value)). Meets y (run plain.trees c) (λ f s' f' c'. (f' ≡ f) × Agree W n s' c' × (length c'.locals ≡ length c.locals)) (Shares W)) (sym (same.at s)) met in
        subst (λ (p : Outcome Q (Frame W) (Flow Value)). C (then_run (r s) (goes_on q)) p) (sym (run_append Q W code ask calls plain.trees rest c))
        (counted_bind Q W k counter (Flow Value) (Flow Value) (Flow Value) (Flow Value) (r s) (run plain.trees c) (λ f s' f' c'. (f' ≡ f) × Agree W n s' c' × (length c'.locals ≡ length c.locals)) (Shares W) 0 0 (goes_on q) (goes_on (run rest)) there
        (h.counts plain.trees plain.trees_are known1 first s c agree size1 j)
        (λ f s1 f1 c1 z j1. later q rest f f1 s1 c1 z.0 j1 (h'.counts rest are known second s1 c1 z.1 (le_trans size (le_of_eq (sym z.2))) j1))));
  }

  -- ---- marks of a statement's own

  completes_at : (id : ℕ) (o : Outcome Q (SourceFrame (Marked W)) (Flow Value)) (p : Outcome Q (Frame W) (Flow Value)) → D id ≡ 0 → C o p → C (then_run o (completed id)) p
  completes_at id (Gives Goes s) (Gives b c) z h = mark_behind Q W k counter 0 0 (mark.Completed id) s.shared c.shared (omega (arith, z)) h
  completes_at id (Gives Goes s) (Throws t c) z h = tt
  completes_at id (Gives Goes s) (Asks q c) z h = tt
  completes_at id (Gives (Returns v) s) p z h = h
  completes_at id (Throws t s) p z h = h
  completes_at id (Asks q s) p z h = tt

  marked_statement : (id high : ℕ) (r : HereM (Flow Value)) (ts : List Tree) → D id ≡ 0 → Rs high (B id) 0 r ts → Rs high 0 0 (marked_does id r) ts
  marked_statement id high r ts z h = λ s c g size j.
      completes_at id (r (record s { shared = with_mark Q W k counter (mark.Begun id) s.shared })) (run ts c) z
      (h (record s { shared = with_mark Q W k counter (mark.Begun id) s.shared }) c g size (mark_behind Q W k counter 0 (B id) (mark.Begun id) s.shared c.shared (omega (arith)) j))

  -- no node counts the statement itself
  pub own_done : (id g : ℕ) (r : HereM (Flow Value)) (o o' : Draft) → CountsDone (Flow Value) g r o o' → CountsDone (Flow Value) ((B id + D id) + g) (marked_does id r) o o'
  own_done id g r o o' h = record {
    grows = grows_more Q W k counter g ((B id + D id) + g) o.nodes o'.nodes (omega (arith)) h.grows;
    counts = λ trees all known eq.
        let most = h.grows.few known in
        let begun : 0 ≡ B id = omega (arith, most, eq) in
        marked_statement id (length o'.slots) r trees (omega (arith, most, eq))
        (subst (λ (b : ℕ). Rs (length o'.slots) b 0 r trees) begun (h.counts trees all known (omega (arith, most, eq))));
  }

  -- a statement of one word, whose node counts how often it was begun
  pub begun_done : (id : ℕ) (r : HereM (Flow Value)) (o : Draft) → KeepsHere Q W (Flow Value) r → (word : Word) → Works word → (token : ℕ) → B id + D id ≤ 1 → CountsDone (Flow Value) (B id + D id) (marked_does id r) o (emitted P word token (Begun id) o)
  begun_done id r o keeps word works token few =
      let node = length o.nodes + 1 in
      let one = node_at P o.method token (Begun id) in
      let once = λ (e : counter ≡ Begun id). begins_once Q W ask never P code source_calls calls n k counter id e in
      record {
        grows = grows_one Q W k counter (B id + D id) o.nodes o.nodes one (Begun id) refl (λ e. let z = once e in omega (arith, z)) (grows_none Q W k counter (B id + D id) o.nodes);
        counts = λ trees all known eq.
            let new = from_one Q W k counter o.nodes one in
            let sum : Fs o + Hs node + 0 ≡ Fs o + (B id + D id) = omega (arith, new, eq) in
            let l = alone_of (Fs o) (B id + D id) (B id) (D id) (Hs node) 0 (omega (arith)) few (λ h. h) sum (λ h. once (hit_counter Q W k counter o.nodes one (Begun id) refl known h)) (λ h. absurd (omega (arith, h))) in
            moved (length o.slots) (marked_does id r) o (emitted P word token (Begun id) o) (Do node word ∷ []) trees refl all
            (marked_statement id (length o.slots) r (Do node word ∷ []) (sym l.left)
            (subst (λ (b : ℕ). Rs (length o.slots) b 0 r (Do node word ∷ [])) (sym l.begun)
            (λ s c agree size j. word_counted Q W ask code calls k counter never (Flow Value) node word r s c keeps (works c.locals) j)));
      }
