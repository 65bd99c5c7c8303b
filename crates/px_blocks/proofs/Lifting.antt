-- The induction from words to trees, and from trees to frames, for whatever runs blocks.
use Rattle.std.proofs.Common.{◌≡◌, ℕ, zero, suc, ◌+◌, ◌≤◌, nat_lt, Bool, true, false, if◌then◌else◌, List, [], ◌∷◌, Option, Some, None, unwrap_or, refl, sym, ap, subst, ◌∙◌, arith, le-ltb, true≢false}
use Rattle.px_value.specs.declared.value.Value.{Value}
use Rattle.px_value.specs.declared.value.Value.TheVariants.{Null, Ref}
use Rattle.px_value.specs.declared.thrown.Thrown.{Thrown}
use Rattle.px_value.specs.declared.thrown.Thrown.TheVariants.{TurnsOut, StackOverflowError}
use Rattle.px_value.specs.Outcome.{Outcome, Gives, Throws, Asks, then_run, ◌>>=◌, pure, throw, beside, Flow, Goes, Returns, goes_on}
use Rattle.px_normal.specs.declared.word.Operand.{Operand}
use Rattle.px_normal.specs.declared.word.Word.{Word}
use Rattle.px_normal.specs.declared.word.Word.TheVariants as w
use Rattle.px_normal.specs.declared.method.Tree.{Tree}
use Rattle.px_normal.specs.declared.method.Method.{Method}
use Rattle.px_normal.specs.declared.code.Code.{Code}
use Rattle.px_blocks.specs.declared.block.Deed.{Deed}
use Rattle.px_blocks.specs.declared.block.Deed.TheVariants as deed
use Rattle.px_blocks.specs.declared.block.Statement.{Statement}
use Rattle.px_blocks.specs.declared.block.Block.{Block}
use Rattle.px_blocks.specs.declared.block.Exit.{Exit}
use Rattle.px_blocks.specs.declared.block.Exit.TheVariants.{Branch, Call}
use Rattle.px_normal.specs.First.{Slots, numbered, blank, with_first, first_slots}
use Rattle.px_effects.specs.Operations.{Work}
use Rattle.px_effects.specs.Run.{Ask, max_turns}
use Rattle.px_normal.specs.Run.{Traced, Frame as Within, Here, with_ran, noted}
use Rattle.px_normal.specs.Words.{Does, Works, Invokes, operand, operands, does_of, invokes_on, with_slot, is_return, is_true}
use Rattle.px_normal.specs.CodeRun.{work_run, Calls, comes_back, does_run, word_run, tested, loop, tree_run, body_run, leaves_frame, enters, calls_in}
use Rattle.px_value.specs.Limits.{all_turns}
use Rattle.px_blocks.specs.Machine.{block_at, max_stack, types_of, slots_from}
use Rattle.px_blocks.specs.Rules.{is_call, is_operation, Cutting, Place, Amid, Anew, exit_to, exit_if, From, amid, anew, block_of, statement_of, side_of, first_in, Joins, stays as joins_stays, begins, In, nothing, stays as in_stays, asks as in_asks, calls as in_calls, branches as in_branches, turns as in_turns, AreMethods}
use Rattle.px_blocks.specs.Has.{Has, does as has_do, chooses as has_if, tests as has_test, in_yes, in_no, in_first, in_body, behind, HasStatement}
use Rattle.px_blocks.proofs.Runs.{run_do, run_if, run_loop, loop_zero, loop_suc, calls_zero, calls_suc, all_turns_are}
use Rattle.px_blocks.proofs.Words.{Settles, work_settles, goes_is, work_of, no_call_asks}
use Rattle.px_blocks.proofs.Methods.{no_first, method_lies}
use Rattle.px_blocks.proofs.Places.{Sits, IsLive, Stands, stands, from_sits, joins_sits, sits_after, sits_on, at_drop}

-- a turn is counted
abbrev pub with_turn : {W : Type 0} → Traced W → Traced W
with_turn g = record g { shared = record g.shared { turns = g.shared.turns + 1 } }

abbrev pub turns_of : {W : Type 0} → Within W → ℕ
turns_of s = s.shared.shared.turns

-- ---- what runs blocks

-- What a run has come to is an X. A frame of it goes by a K, which tells its method and how many frames there are with it.
pub record Runner (Q W : Type 0) : Type 1 where
  pub X : Type 0
  pub Leads : X → X → Type 0
  pub K : Type 0
  pub method : K → ℕ
  pub depth : K → ℕ
  -- the frame is at the begin of a block, with these slots and what frames share; or in a block, before these statements
  pub Begins : K → (block : ℕ) → Within W → X → Type 0
  pub Mid : K → (block : ℕ) → List Statement → Exit → Within W → X → Type 0
  -- the frame was left with a result
  pub Left : K → Option Value → Traced W → X → Type 0
  pub Fell : Thrown → Traced W → X → Type 0
  pub Asking : Q → Traced W → X → Type 0

abbrev pub Reaches : {Q W : Type 0} (R : Runner Q W) → (R.X → Type 0) → R.X → Type 0
Reaches R P x = (y : R.X) × R.Leads x y × P y

-- ends where a run of a part of a method does: at a place, if that can be reached, and turns never fall
abbrev pub Ends : {Q W : Type 0} (R : Runner Q W) → R.K → (turns : ℕ) (can : Type 0) → (Within W → R.X → Type 0) → Outcome Q (Within W) (Flow Value) → R.X → Type 0
Ends R k turns can P (Gives Goes s) x = Reaches R (P s) x × can × (turns ≤ turns_of s)
Ends R k turns can P (Gives (Returns v) s) x = Reaches R (R.Left k v s.shared) x × (turns ≤ turns_of s)
Ends R k turns can P (Throws t s) x = Reaches R (R.Fell t s.shared) x
Ends R k turns can P (Asks q g) x = Reaches R (R.Asking q g.shared) x

-- ends where work of a statement's own does
abbrev pub WorkEnds : {Q W : Type 0} (R : Runner Q W) → R.K → (Within W → R.X → Type 0) → Outcome Q (Within W) (Flow Value) → R.X → Type 0
WorkEnds R k P (Gives Goes s) x = Reaches R (P s) x
WorkEnds R k P (Gives (Returns v) s) x = Reaches R (R.Left k v s.shared) x
WorkEnds R k P (Throws t s) x = Reaches R (R.Fell t s.shared) x
WorkEnds R k P (Asks q g) x = Reaches R (R.Asking q g.shared) x

abbrev pub with_shared : {W : Type 0} → Within W → Traced W → Within W
with_shared s g = record { locals = s.locals; shared = g }

abbrev pub noted_at : {W : Type 0} → ℕ → Within W → Traced W
noted_at node s = noted node [] [] s.shared

abbrev pub turn_if : {Q W : Type 0} → Bool → Traced W → Outcome Q (Traced W) (Unit {0})
turn_if b g = with_ran g.ran (if b then Gives tt (with_turn g).shared else Throws TurnsOut g.shared)

-- a statement of the frame's method stands in its block
abbrev pub IsThere : {Q W : Type 0} → Code → List Block → Cutting → (R : Runner Q W) → R.K → ℕ → Statement → List Statement → Exit → Type 0
IsThere code blocks c R k made s rest exit = Stands blocks c (R.method k) made s rest exit × HasStatement code (R.method k) s.node s.deed

-- What is to be shown of it, statement by statement.
pub record Keeps {Q W : Type 0} (code : Code) (blocks : List Block) (ask : Ask Q W) (c : Cutting) (R : Runner Q W) : Type 0 where
  pub stay : (x : R.X) → R.Leads x x
  pub join : (x y z : R.X) → R.Leads x y → R.Leads y z → R.Leads x z
  -- from block to block
  pub goes : (k : R.K) (made to : ℕ) (s : Within W) (x : R.X) → R.Mid k made [] (exit_to to) s x → Reaches R (R.Begins k to s) x
  pub comes : (k : R.K) (n : ℕ) (b : Block) (s : Within W) (x : R.X) → block_at blocks n ≡ Some b → R.Begins k n s x → Reaches R (R.Mid k n b.statements b.exit s) x
  -- block 0 is the end of the method
  pub ends : (k : R.K) (s : Within W) (x : R.X) → R.Begins k 0 s x → Reaches R (R.Left k None s.shared) x
  pub works : (k : R.K) (made node : ℕ) (word : Word) (rest : List Statement) (exit : Exit) (s : Within W) (x : R.X) (work : Work) → IsThere code blocks c R k made (statement_of c.placed node (deed.Does word)) rest exit → does_of code word s.locals ≡ Works work → (is_operation word ≡ true → rest ≡ []) →
      R.Mid k made (statement_of c.placed node (deed.Does word) ∷ rest) exit s x → WorkEnds R k (R.Mid k made rest exit) (work_run code ask node word work s) x
  pub chooses : (k : R.K) (made node : ℕ) (a : Operand) (yes' no' : ℕ) (s : Within W) (x : R.X) → IsThere code blocks c R k made (statement_of c.placed node (deed.Chooses a)) [] (Branch yes' no') →
      R.Mid k made (statement_of c.placed node (deed.Chooses a) ∷ []) (Branch yes' no') s x → Reaches R (R.Begins k (if is_true (operand s.locals a) then yes' else no') (with_shared s (noted_at node s))) x
  pub tests : (k : R.K) (made node : ℕ) (a : Operand) (yes' no' : ℕ) (s : Within W) (x : R.X) → IsThere code blocks c R k made (statement_of c.placed node (deed.Tests a)) [] (Branch yes' no') → nat_lt (turns_of s) max_turns ≡ true →
      R.Mid k made (statement_of c.placed node (deed.Tests a) ∷ []) (Branch yes' no') s x → Reaches R (R.Begins k (if is_true (operand s.locals a) then yes' else no') (with_shared s (with_turn (noted_at node s)))) x
  pub no_turn : (k : R.K) (made node : ℕ) (a : Operand) (yes' no' : ℕ) (s : Within W) (x : R.X) → IsThere code blocks c R k made (statement_of c.placed node (deed.Tests a)) [] (Branch yes' no') → nat_lt (turns_of s) max_turns ≡ false →
      R.Mid k made (statement_of c.placed node (deed.Tests a) ∷ []) (Branch yes' no') s x → Reaches R (R.Fell TurnsOut (noted_at node s)) x
  -- a call: a frame is entered, and wherever that one is left, the caller goes on
  pub calls : (k : R.K) (made node after : ℕ) (to : Option ℕ) (of : Operand) (method : ℕ) (args : List Operand) (values : List Value) (s : Within W) (x : R.X) →
      IsThere code blocks c R k made (statement_of c.placed node (deed.Does (w.Call to of method args))) [] (Call (first_in c.firsts method) after) → does_of code (w.Call to of method args) s.locals ≡ Invokes method values → nat_lt (turns_of s) max_turns ≡ true → suc (R.depth k) ≤ max_stack →
      R.Mid k made (statement_of c.placed node (deed.Does (w.Call to of method args)) ∷ []) (Call (first_in c.firsts method) after) s x →
      (k' : R.K) × (R.method k' ≡ method) × (R.depth k' ≡ suc (R.depth k)) ×
      Reaches R (R.Begins k' (first_in c.firsts method) (record { locals = slots_from code method values; shared = with_turn (noted_at node s) })) x ×
      ((v : Option Value) (g : Traced W) (y : R.X) → R.Left k' v g y → Reaches R (R.Begins k after (record { locals = with_slot to (unwrap_or v Null) s.locals; shared = g })) y)
  pub no_turn_to_call : (k : R.K) (made node after : ℕ) (to : Option ℕ) (of : Operand) (method : ℕ) (args : List Operand) (values : List Value) (s : Within W) (x : R.X) →
      IsThere code blocks c R k made (statement_of c.placed node (deed.Does (w.Call to of method args))) [] (Call (first_in c.firsts method) after) → does_of code (w.Call to of method args) s.locals ≡ Invokes method values → nat_lt (turns_of s) max_turns ≡ false →
      R.Mid k made (statement_of c.placed node (deed.Does (w.Call to of method args)) ∷ []) (Call (first_in c.firsts method) after) s x → Reaches R (R.Fell TurnsOut (noted_at node s)) x
  pub no_frame : (k : R.K) (made node after : ℕ) (to : Option ℕ) (of : Operand) (method : ℕ) (args : List Operand) (values : List Value) (s : Within W) (x : R.X) →
      IsThere code blocks c R k made (statement_of c.placed node (deed.Does (w.Call to of method args))) [] (Call (first_in c.firsts method) after) → does_of code (w.Call to of method args) s.locals ≡ Invokes method values → nat_lt (turns_of s) max_turns ≡ true → R.depth k ≡ max_stack →
      R.Mid k made (statement_of c.placed node (deed.Does (w.Call to of method args)) ∷ []) (Call (first_in c.firsts method) after) s x → Reaches R (R.Fell StackOverflowError (with_turn (noted_at node s))) x

-- ---- ways

module _ {Q W : Type 0} (code : Code) (blocks : List Block) (ask : Ask Q W) (c : Cutting) (R : Runner Q W) (keeps : Keeps code blocks ask c R) where
  reaches_on : (P : R.X → Type 0) (x y : R.X) → R.Leads x y → Reaches R P y → Reaches R P x
  reaches_on P x y l r = (r.0, keeps.join x y r.0 l r.1, r.2)

  reached : (P Q : R.X → Type 0) (x : R.X) → Reaches R P x → ((y : R.X) → P y → Reaches R Q y) → Reaches R Q x
  reached P Q x r k = reaches_on Q x r.0 r.1 (k r.0 r.2)

  ends_on : (k : R.K) (n : ℕ) (can : Type 0) (P : Within W → R.X → Type 0) (o : Outcome Q (Within W) (Flow Value)) (x y : R.X) → R.Leads x y → Ends R k n can P o y → Ends R k n can P o x
  ends_on k n can P (Gives Goes s) x y l e = (reaches_on _ x y l e.0, e.1, e.2)
  ends_on k n can P (Gives (Returns v) s) x y l e = (reaches_on _ x y l e.0, e.1)
  ends_on k n can P (Throws t s) x y l e = reaches_on _ x y l e
  ends_on k n can P (Asks q g) x y l e = reaches_on _ x y l e

  -- after a way to a place
  ends_at : (k : R.K) (n : ℕ) (can : Type 0) (P : Within W → R.X → Type 0) (o : Outcome Q (Within W) (Flow Value)) (x : R.X) (Q : R.X → Type 0) → Reaches R Q x → ((y : R.X) → Q y → Ends R k n can P o y) → Ends R k n can P o x
  ends_at k n can P o x Q r h = ends_on k n can P o x r.0 r.1 (h r.0 r.2)

  ends_more : (k : R.K) (n more : ℕ) (can : Type 0) (P : Within W → R.X → Type 0) (o : Outcome Q (Within W) (Flow Value)) (x : R.X) → n ≤ more → Ends R k more can P o x → Ends R k n can P o x
  ends_more k n more can P (Gives Goes s) x h e = (e.0, e.1, let l = e.2 in omega (arith, h, l))
  ends_more k n more can P (Gives (Returns v) s) x h e = (e.0, let l = e.1 in omega (arith, h, l))
  ends_more k n more can P (Throws t s) x h e = e
  ends_more k n more can P (Asks q g) x h e = e

  -- where it comes to a place, it goes on from there
  ends_then : (k : R.K) (n : ℕ) (can can' : Type 0) (P P' : Within W → R.X → Type 0) (o : Outcome Q (Within W) (Flow Value)) (x : R.X) (r : Here Q W (Flow Value)) → Ends R k n can P o x → ((s : Within W) (y : R.X) → P s y → can → n ≤ turns_of s → Ends R k n can' P' (r s) y) → Ends R k n can' P' (then_run o (goes_on r)) x
  ends_then k n can can' P P' (Gives Goes s) x r e h = ends_at k n can' P' (r s) x (P s) e.0 (λ y p. h s y p e.1 e.2)
  ends_then k n can can' P P' (Gives (Returns v) s) x r e h = e
  ends_then k n can can' P P' (Throws t s) x r e h = e
  ends_then k n can can' P P' (Asks q g) x r e h = e

  -- ---- places

  abbrev pub At : R.K → Place → Within W → R.X → Type 0
  At k (Amid made side over rest exit later) s x = R.Mid k made rest exit s x
  At k (Anew made to later) s x = R.Begins k to s x

  from_reaches : (k : R.K) (p : Place) (made to : ℕ) (later : List Block) → From p made to later → IsLive p → (s : Within W) (x : R.X) → At k p s x → Reaches R (R.Begins k to s) x
  from_reaches k p made to later (amid {over = over} {exit = exit} e) live s x a = keeps.goes k made to s x (subst (λ q. R.Mid k made [] q s x) (e ∙ ap (λ b. exit_if b to) live) a)
  from_reaches k p made to later anew live s x a = (x, keeps.stay x, a)

  ends_from : (k : R.K) (n : ℕ) (o : Outcome Q (Within W) (Flow Value)) (x : R.X) (p : Place) (made to : ℕ) (later : List Block) → From p made to later → Ends R k n (IsLive p) (At k p) o x → Ends R k n (Unit {0}) (R.Begins k to) o x
  ends_from k n (Gives Goes s) x p made to later f e = (reached (At k p s) (R.Begins k to s) x e.0 (λ y a. from_reaches k p made to later f e.1 s y a), tt, e.2)
  ends_from k n (Gives (Returns v) s) x p made to later f e = e
  ends_from k n (Throws t s) x p made to later f e = e
  ends_from k n (Asks q g) x p made to later f e = e

  abbrev AtStart : R.K → Statement → Place → Within W → R.X → Type 0
  AtStart k s (Amid made side over rest exit later) st x = R.Mid k made (s ∷ rest) exit st x
  AtStart k s (Anew made to later) st x = ⊥

  joins_reaches : (k : R.K) (m : ℕ) (s : Statement) (p q : Place) → Joins c m s p q → Sits blocks m p → IsLive p → (st : Within W) (x : R.X) → At k p st x → Reaches R (AtStart k s q st) x
  joins_reaches k m s p q (joins_stays e) i live st x a = (x, keeps.stay x, a)
  joins_reaches k m s p q (begins {made = made} {rest = rest} {exit = exit} {later = later} away f) i live st x a =
      let b : Block = block_of m (side_of c.placed.sides s.node) (s ∷ rest) exit in
      let there = at_drop blocks later made b (from_sits blocks c m p made (suc made) (b ∷ later) f i) in
      reached (R.Begins k (suc made) st) _ x (from_reaches k p made (suc made) (b ∷ later) f live st x a) (λ y e. keeps.comes k (suc made) b st y there.0 e)

  -- ---- words

  work_ends : (k : R.K) (word : Word) (n : ℕ) (over : Bool) (P : Within W → R.X → Type 0) (st : Within W) (o : Outcome Q (Within W) (Flow Value)) (x : R.X) → over ≡ is_return word → Settles word (turns_of st) o → n ≤ turns_of st → WorkEnds R k P o x → Ends R k n (over ≡ false) P o x
  work_ends k word n over P st (Gives Goes s) x is settles h e = (e, is ∙ goes_is (is_return word) settles.0.0 settles.0.1, let l = settles.1 in omega (arith, h, l))
  work_ends k word n over P st (Gives (Returns v) s) x is settles h e = (e, let l = settles.1 in omega (arith, h, l))
  work_ends k word n over P st (Throws t s) x is settles h e = e
  work_ends k word n over P st (Asks q g) x is settles h e = e

  does_ends : (calls : Calls Q W) (k : R.K) (made node n : ℕ) (word : Word) (over : Bool) (rest : List Statement) (exit : Exit) (s : Within W) (x : R.X) (d : Does) (work : Work) → d ≡ Works work → does_of code word s.locals ≡ Works work → (is_operation word ≡ true → rest ≡ []) → IsThere code blocks c R k made (statement_of c.placed node (deed.Does word)) rest exit → over ≡ is_return word → n ≤ turns_of s →
      R.Mid k made (statement_of c.placed node (deed.Does word) ∷ rest) exit s x → Ends R k n (over ≡ false) (R.Mid k made rest exit) (does_run code ask calls node word d s) x
  does_ends calls k made node n word over rest exit s x d work e does none there is h a =
      subst (λ (d : Does). Ends R k n (over ≡ false) (R.Mid k made rest exit) (does_run code ask calls node word d s) x) (sym e)
      (work_ends k word n over (R.Mid k made rest exit) s (work_run code ask node word work s) x is (work_settles code ask node word s work) h (keeps.works k made node word rest exit s x work there does none a))

  word_ends : (calls : Calls Q W) (k : R.K) (made node n : ℕ) (word : Word) (over : Bool) (rest : List Statement) (exit : Exit) (s : Within W) (x : R.X) → is_call word ≡ false → (is_operation word ≡ true → rest ≡ []) → IsThere code blocks c R k made (statement_of c.placed node (deed.Does word)) rest exit → over ≡ is_return word → n ≤ turns_of s →
      R.Mid k made (statement_of c.placed node (deed.Does word) ∷ rest) exit s x → Ends R k n (over ≡ false) (R.Mid k made rest exit) (word_run code ask calls node word s) x
  word_ends calls k made node n word over rest exit s x no_call none there is h a =
      let work = work_of code word s.locals no_call in
      does_ends calls k made node n word over rest exit s x (does_of code word s.locals) work.0 work.1 work.1 none there is h a

  -- ---- calls

  -- with so many frames left, a method that is called comes back
  abbrev pub CallsCome : ℕ → Calls Q W → Type 0
  CallsCome left calls = (k : R.K) (made node after n : ℕ) (to : Option ℕ) (of : Operand) (method : ℕ) (args : List Operand) (values : List Value) (s : Within W) (x : R.X) → left + R.depth k ≡ max_stack →
      IsThere code blocks c R k made (statement_of c.placed node (deed.Does (w.Call to of method args))) [] (Call (first_in c.firsts method) after) → does_of code (w.Call to of method args) s.locals ≡ Invokes method values → nat_lt (turns_of s) max_turns ≡ true → n ≤ turns_of s →
      R.Mid k made (statement_of c.placed node (deed.Does (w.Call to of method args)) ∷ []) (Call (first_in c.firsts method) after) s x →
      Ends R k n (Unit {0}) (R.Begins k after) (comes_back to s.locals (calls method values (with_turn (noted_at node s)))) x

  module _ (calls : Calls Q W) (left : ℕ) (come : CallsCome left calls) (k : R.K) (room : left + R.depth k ≡ max_stack) where
    module _ (made node after n : ℕ) (to : Option ℕ) (of : Operand) (method : ℕ) (args : List Operand) (s : Within W) (x : R.X)
        (there : IsThere code blocks c R k made (statement_of c.placed node (deed.Does (w.Call to of method args))) [] (Call (first_in c.firsts method) after))
        (a : R.Mid k made (statement_of c.placed node (deed.Does (w.Call to of method args)) ∷ []) (Call (first_in c.firsts method) after) s x) (h : n ≤ turns_of s) where
      abbrev word : Word
      word = w.Call to of method args

      abbrev exit : Exit
      exit = Call (first_in c.firsts method) after

      turn_ends : (b : Bool) (values : List Value) → nat_lt (turns_of s) max_turns ≡ b → does_of code word s.locals ≡ Invokes method values →
          Ends R k n (Unit {0}) (R.Begins k after) (comes_back to s.locals (then_run (turn_if b (noted_at node s)) (λ _. calls method values))) x
      turn_ends true values t d = come k made node after n to of method args values s x room there d t h a
      turn_ends false values t d = keeps.no_turn_to_call k made node after to of method args values s x there d t a

      invoked_ends : (v : Value) (values : List Value) → does_of code word s.locals ≡ invokes_on v method values → Ends R k n (Unit {0}) (R.Begins k after) (does_run code ask calls node word (invokes_on v method values) s) x
      invoked_ends (Ref object) values d = turn_ends (nat_lt (turns_of s) max_turns) (Ref object ∷ values) refl d
      invoked_ends _ values d = keeps.works k made node word [] exit s x _ there d (λ _. refl) a

      call_ends : Ends R k n (Unit {0}) (R.Begins k after) (word_run code ask calls node word s) x
      call_ends = invoked_ends (operand s.locals of) (operands s.locals args) refl

    -- ---- tests

    abbrev head_run : Here Q W (Flow Value) → List Tree → Here Q W (Flow Value)
    head_run r ts = r >>= goes_on (body_run code ask calls ts)

    head : (t : Tree) (r : Here Q W (Flow Value)) (ts : List Tree) (s : Within W) → tree_run code ask calls t ≡ r → body_run code ask calls (t ∷ ts) s ≡ head_run r ts s
    head t r ts s e = ap (λ (r : Here Q W (Flow Value)). head_run r ts s) e

    ends_as : (n : ℕ) (can : Type 0) (P : Within W → R.X → Type 0) (o o' : Outcome Q (Within W) (Flow Value)) (x : R.X) → o ≡ o' → Ends R k n can P o' x → Ends R k n can P o x
    ends_as n can P o o' x e h = subst (λ q. Ends R k n can P q x) (sym e) h

    -- a branch, by the test's value
    chosen_ends : (b : Bool) (yes' no' : Here Q W (Flow Value)) (y n' n : ℕ) (can : Type 0) (P : Within W → R.X → Type 0) (s : Within W) (x : R.X) →
        R.Begins k (if b then y else n') s x → (R.Begins k y s x → Ends R k n can P (yes' s) x) → (R.Begins k n' s x → Ends R k n can P (no' s) x) → Ends R k n can P ((if b then yes' else no') s) x
    chosen_ends true yes' no' y n' n can P s x a p q = p a
    chosen_ends false yes' no' y n' n can P s x a p q = q a

    -- ---- loops

    module _ (first : Here Q W (Flow Value)) (body : Here Q W (Flow Value)) (node : ℕ) (a : Operand) (start made yes' after : ℕ) (pf : Place)
        (there : IsThere code blocks c R k made (statement_of c.placed node (deed.Tests a)) [] (Branch yes' after))
        (first_ends : (n : ℕ) (s : Within W) (x : R.X) → n ≤ turns_of s → R.Begins k start s x → Ends R k n (IsLive pf) (At k pf) (first s) x)
        (to_test : (s : Within W) (x : R.X) → IsLive pf → At k pf s x → Reaches R (R.Mid k made (statement_of c.placed node (deed.Tests a) ∷ []) (Branch yes' after) s) x)
        (body_ends : (n : ℕ) (s : Within W) (x : R.X) → n ≤ turns_of s → R.Begins k yes' s x → Ends R k n (Unit {0}) (R.Begins k start) (body s) x) where
      abbrev at_test : Within W → R.X → Type 0
      at_test s x = R.Mid k made (statement_of c.placed node (deed.Tests a) ∷ []) (Branch yes' after) s x

      none_left : (b : Bool) (n : ℕ) (s : Within W) (x : R.X) → nat_lt (turns_of s) max_turns ≡ b → b ≡ false → at_test s x →
          Ends R k n (Unit {0}) (R.Begins k after) (then_run (beside s.locals (turn_if b (noted_at node s))) (λ _. throw TurnsOut)) x
      none_left true n s x t e m = absurd (true≢false e)
      none_left false n s x t e m = keeps.no_turn k made node a yes' after s x there t m

      some_left : (b : Bool) (n : ℕ) (s : Within W) (x : R.X) (r : Here Q W (Flow Value)) → nat_lt (turns_of s) max_turns ≡ b → n ≤ turns_of s → at_test s x →
          ((s : Within W) (x : R.X) → suc n ≤ turns_of s → R.Begins k start s x → Ends R k (suc n) (Unit {0}) (R.Begins k after) (r s) x) →
          Ends R k n (Unit {0}) (R.Begins k after) (then_run (beside s.locals (turn_if b (noted_at node s))) (λ _. if is_true (operand s.locals a) then body >>= goes_on r else pure Goes)) x
      some_left false n s x r t h m again = keeps.no_turn k made node a yes' after s x there t m
      some_left true n s x r t h m again =
          let s' : Within W = with_shared s (with_turn (noted_at node s)) in
          ends_at k n (Unit {0}) (R.Begins k after) _ x (R.Begins k (if is_true (operand s.locals a) then yes' else after) s') (keeps.tests k made node a yes' after s x there t m)
          (λ y e. chosen_ends (is_true (operand s.locals a)) (body >>= goes_on r) (pure Goes) yes' after n (Unit {0}) (R.Begins k after) s' y e
          (λ e. ends_more k n (suc n) (Unit {0}) (R.Begins k after) (then_run (body s') (goes_on r)) y (omega arith)
          (ends_then k (suc n) (Unit {0}) (Unit {0}) (R.Begins k start) (R.Begins k after) (body s') y r (body_ends (suc n) s' y (omega (arith, h)) e) (λ s z b can l. again s z l b)))
          (λ e. ((y, keeps.stay y, e), tt, omega (arith, h))))

      -- with turns left for all that may yet be made
      loop_ends : (turns n : ℕ) (s : Within W) (x : R.X) → suc max_turns ≤ turns + n → n ≤ turns_of s → R.Begins k start s x → Ends R k n (Unit {0}) (R.Begins k after) (loop first (tested node a) body turns s) x
      loop_ends zero n s x all h e =
          ends_as n (Unit {0}) (R.Begins k after) _ _ x (ap (λ (r : Here Q W (Flow Value)). r s) (loop_zero first (tested node a) body))
          (ends_then k n (IsLive pf) (Unit {0}) (At k pf) (R.Begins k after) (first s) x _ (first_ends n s x h e)
          (λ s y b live l. ends_at k n (Unit {0}) (R.Begins k after) _ y (at_test s) (to_test s y live b)
          (λ z m. none_left (nat_lt (turns_of s) max_turns) n s z refl (le-ltb (turns_of s) max_turns (omega (arith, all, l))) m)))
      loop_ends (suc turns) n s x all h e =
          ends_as n (Unit {0}) (R.Begins k after) _ _ x (ap (λ (r : Here Q W (Flow Value)). r s) (loop_suc first (tested node a) body turns))
          (ends_then k n (IsLive pf) (Unit {0}) (At k pf) (R.Begins k after) (first s) x _ (first_ends n s x h e)
          (λ s y b live l. ends_at k n (Unit {0}) (R.Begins k after) _ y (at_test s) (to_test s y live b)
          (λ z m. some_left (nat_lt (turns_of s) max_turns) n s z (loop first (tested node a) body turns) refl l m
          (λ s' x' l' e'. loop_ends turns (suc n) s' x' (omega (arith, all)) l' e'))))

    -- ---- trees

    pub trees_end : (p q : Place) (ts : List Tree) → In c (R.method k) p ts q → Sits blocks (R.method k) p → IsLive p → ((node : ℕ) (d : Deed) → Has ts node d → HasStatement code (R.method k) node d) →
        (n : ℕ) (s : Within W) (x : R.X) → n ≤ turns_of s → At k p s x → Ends R k n (IsLive q) (At k q) (body_run code ask calls ts s) x
    trees_end p q ts nothing i live up n s x h a = ((x, keeps.stay x, a), live, h)
    trees_end p q ts (in_stays {made = made} {node = node} {side = side} {over = over} {rest = rest} {exit = exit} {later = later} {word = word} {ts = rest_ts} no_call no_operation j d) i live up n s x h a =
        let r = word_run code ask calls node word in
        let st = statement_of c.placed node (deed.Does word) in
        let place = Amid made side over rest exit later in
        let behind_it = joins_sits blocks c (R.method k) st p place j i in
        let there = stands blocks c (R.method k) made side over st rest exit later behind_it in
        ends_as n (IsLive q) (At k q) _ _ x (head _ r rest_ts s (run_do code ask calls node word))
        (ends_at k n (IsLive q) (At k q) (head_run r rest_ts s) x (AtStart k st place s) (joins_reaches k (R.method k) st p place j i live s x a)
        (λ y e. ends_then k n (over ≡ false) (IsLive q) (At k place) (At k q) (r s) y (body_run code ask calls rest_ts)
        (word_ends calls k made node n word over rest exit s y no_call (λ op. absurd (true≢false (sym op ∙ no_operation))) (there, up node (deed.Does word) has_do) behind_it.0 h e)
        (λ s z b can l. trees_end place q rest_ts d (sits_after blocks c (R.method k) st p place j i) can (λ node d has. up node d (behind has)) n s z l b)))
    trees_end p q ts (in_asks {made = made} {to = to} {node = node} {side = side} {over = over} {exit = exit} {later = later} {word = word} {ts = rest_ts} is_op exit_is j d) i live up n s x h a =
        let r = word_run code ask calls node word in
        let st = statement_of c.placed node (deed.Does word) in
        let place = Amid made side over [] exit later in
        let behind_it = joins_sits blocks c (R.method k) st p place j i in
        let there = stands blocks c (R.method k) made side over st [] exit later behind_it in
        ends_as n (IsLive q) (At k q) _ _ x (head _ r rest_ts s (run_do code ask calls node word))
        (ends_at k n (IsLive q) (At k q) (head_run r rest_ts s) x (AtStart k st place s) (joins_reaches k (R.method k) st p place j i live s x a)
        (λ y e. ends_then k n (over ≡ false) (IsLive q) (At k place) (At k q) (r s) y (body_run code ask calls rest_ts)
        (word_ends calls k made node n word over [] exit s y (no_call_asks word is_op) (λ _. refl) (there, up node (deed.Does word) has_do) behind_it.0 h e)
        (λ s z b can l. ends_at k n (IsLive q) (At k q) _ z (R.Begins k to s) (keeps.goes k made to s z (subst (λ q. R.Mid k made [] q s z) exit_is b))
        (λ z b. trees_end (Anew made to later) q rest_ts d behind_it.2.later_is tt (λ node d has. up node d (behind has)) n s z l b))))
    trees_end p q ts (in_calls {made = made} {back = after} {node = node} {method = method} {side = side} {over = over} {later = later} {to = to} {of = of} {args = args} {ts = rest_ts} j d) i live up n s x h a =
        let word = w.Call to of method args in
        let r = word_run code ask calls node word in
        let st = statement_of c.placed node (deed.Does word) in
        let exit = Call (first_in c.firsts method) after in
        let place = Amid made side over [] exit later in
        let behind_it = joins_sits blocks c (R.method k) st p place j i in
        let there = stands blocks c (R.method k) made side over st [] exit later behind_it in
        ends_as n (IsLive q) (At k q) _ _ x (head _ r rest_ts s (run_do code ask calls node word))
        (ends_at k n (IsLive q) (At k q) (head_run r rest_ts s) x (AtStart k st place s) (joins_reaches k (R.method k) st p place j i live s x a)
        (λ y e. ends_then k n (Unit {0}) (IsLive q) (R.Begins k after) (At k q) (r s) y (body_run code ask calls rest_ts)
        (call_ends made node after n to of method args s y (there, up node (deed.Does word) has_do) e h)
        (λ s z b can l. trees_end (Anew made after later) q rest_ts d behind_it.2.later_is tt (λ node d has. up node d (behind has)) n s z l b)))
    trees_end p q ts (in_branches {py = py} {pn = pn} {made = made} {made1 = made1} {made2 = made2} {yes' = y} {no' = no'} {after = after} {node = node} {side = side} {over = over} {later = later} {later1 = later1} {later2 = later2} {a = o} {ys = ys} {ns = ns} {ts = rest_ts} j dy fy dn fn d) i live up n s x h a =
        let r : Here Q W (Flow Value) = tested node o >>= (λ v. if is_true v then body_run code ask calls ys else body_run code ask calls ns) in
        let st = statement_of c.placed node (deed.Chooses o) in
        let exit = Branch y no' in
        let place = Amid made side over [] exit later in
        let behind_it = joins_sits blocks c (R.method k) st p place j i in
        let there = stands blocks c (R.method k) made side over st [] exit later behind_it in
        let i0 = behind_it.2.later_is in
        let i1 = from_sits blocks c (R.method k) py made1 after later1 fy (sits_on blocks c (R.method k) _ py ys dy i0) in
        let i2 = from_sits blocks c (R.method k) pn made2 after later2 fn (sits_on blocks c (R.method k) _ pn ns dn i1) in
        let s' : Within W = with_shared s (noted_at node s) in
        ends_as n (IsLive q) (At k q) _ _ x (head _ r rest_ts s (run_if code ask calls node o ys ns))
        (ends_at k n (IsLive q) (At k q) (head_run r rest_ts s) x (AtStart k st place s) (joins_reaches k (R.method k) st p place j i live s x a)
        (λ y0 e. ends_then k n (Unit {0}) (IsLive q) (R.Begins k after) (At k q) (r s) y0 (body_run code ask calls rest_ts)
        (ends_at k n (Unit {0}) (R.Begins k after) (r s) y0 (R.Begins k (if is_true (operand s.locals o) then y else no') s') (keeps.chooses k made node o y no' s y0 (there, up node (deed.Chooses o) (has_if ys ns)) e)
        (λ z b. chosen_ends (is_true (operand s.locals o)) (body_run code ask calls ys) (body_run code ask calls ns) y no' n (Unit {0}) (R.Begins k after) s' z b
        (λ b. ends_from k n _ z py made1 after later1 fy (trees_end (Anew made y later) py ys dy i0 tt (λ at d has. up at d (in_yes node o ns has)) n s' z h b))
        (λ b. ends_from k n _ z pn made2 after later2 fn (trees_end (Anew made1 no' later1) pn ns dn i1 tt (λ at d has. up at d (in_no node o ys has)) n s' z h b))))
        (λ s z b can l. trees_end (Anew made2 after later2) q rest_ts d i2 tt (λ node d has. up node d (behind has)) n s z l b)))
    trees_end p q ts (in_turns {pf = pf} {pb = pb} {made = made} {made1 = made1} {made2 = made2} {yes' = y} {after = after} {node = node} {side = side} {over = over} {later = later} {later1 = later1} {later2 = later2} {a = o} {first = first} {body = body} {ts = rest_ts} f df j db fb d) i live up n s x h a =
        let r : Here Q W (Flow Value) = loop (body_run code ask calls first) (tested node o) (body_run code ask calls body) all_turns in
        let st = statement_of c.placed node (deed.Tests o) in
        let exit = Branch y after in
        let place = Amid made1 side over [] exit later1 in
        let i0 = from_sits blocks c (R.method k) p made (suc made) later f i in
        let if0 = sits_on blocks c (R.method k) _ pf first df i0 in
        let behind_it = joins_sits blocks c (R.method k) st pf place j if0 in
        let there = stands blocks c (R.method k) made1 side over st [] exit later1 behind_it in
        let i1 = behind_it.2.later_is in
        let i2 = from_sits blocks c (R.method k) pb made2 (suc made) later2 fb (sits_on blocks c (R.method k) _ pb body db i1) in
        ends_as n (IsLive q) (At k q) _ _ x (head _ r rest_ts s (run_loop code ask calls first node o body))
        (ends_at k n (IsLive q) (At k q) (head_run r rest_ts s) x (R.Begins k (suc made) s) (from_reaches k p made (suc made) later f live s x a)
        (λ y0 e. ends_then k n (Unit {0}) (IsLive q) (R.Begins k after) (At k q) (r s) y0 (body_run code ask calls rest_ts)
        (loop_ends (body_run code ask calls first) (body_run code ask calls body) node o (suc made) made1 y after pf (there, up node (deed.Tests o) (has_test first body))
        (λ n s x h a. trees_end (Anew made (suc made) later) pf first df i0 tt (λ at d has. up at d (in_first node o body has)) n s x h a)
        (λ s x live a. joins_reaches k (R.method k) st pf place j if0 live s x a)
        (λ n s x h a. ends_from k n _ x pb made2 (suc made) later2 fb (trees_end (Anew made1 y later1) pb body db i1 tt (λ at d has. up at d (in_body first node o has)) n s x h a))
        all_turns n s y0 (let e = all_turns_are in omega (arith, e)) h e)
        (λ s z b can l. trees_end (Anew made2 after later2) q rest_ts d i2 tt (λ node d has. up node d (behind has)) n s z l b)))

  -- ---- frames

  -- a method comes back
  abbrev pub Returned : R.K → (turns : ℕ) → Outcome Q (Traced W) (Option Value) → R.X → Type 0
  Returned k n (Gives v g) x = Reaches R (R.Left k v g) x × (n ≤ g.shared.turns)
  Returned k n (Throws t g) x = Reaches R (R.Fell t g) x
  Returned k n (Asks q g) x = Reaches R (R.Asking q g) x

  returned_at_end : (k : R.K) (n : ℕ) (o : Outcome Q (Within W) (Flow Value)) (x : R.X) → Ends R k n (Unit {0}) (R.Begins k 0) o x → Returned k n (leaves_frame o) x
  returned_at_end k n (Gives Goes s) x e = (reached (R.Begins k 0 s) (R.Left k None s.shared) x e.0 (λ y b. keeps.ends k s y b), e.2)
  returned_at_end k n (Gives (Returns v) s) x e = e
  returned_at_end k n (Throws t s) x e = e
  returned_at_end k n (Asks q g) x e = e

  module _ (cut : AreMethods c 1 0 code.methods c.firsts blocks) where
    module _ (calls : Calls Q W) (left : ℕ) (come : CallsCome left calls) (k : R.K) (room : left + R.depth k ≡ max_stack) (values : List Value) (g : Traced W) (n : ℕ) (x : R.X) (h : n ≤ g.shared.turns) where
      abbrev begun : Within W
      begun = record { locals = slots_from code (R.method k) values; shared = g }

      -- a method's first slots, by its number
      slots_are : (number : ℕ) (method : Method) → numbered code.methods number ≡ Some method → slots_from code number values ≡ first_slots method values
      slots_are zero method e = absurd (let x : ⊥ = cc in x)
      slots_are (suc i) method e = ap (λ (m : Option Method). with_first values (blank (types_of m))) e

      enters_as : (method : Option Method) → numbered code.methods (R.method k) ≡ method → R.Begins k (first_in c.firsts (R.method k)) begun x → Returned k n (enters code ask calls method values g) x
      enters_as None e a = (keeps.ends k begun x (subst (λ to. R.Begins k to begun x) (no_first blocks c code.methods cut (R.method k) e) a), h)
      enters_as (Some method) e a =
          let l = method_lies blocks c code.methods cut (R.method k) method e in
          let s = begun in
          subst (λ slots. Returned k n (leaves_frame (body_run code ask calls method.body (record { locals = slots; shared = g }))) x) (slots_are (R.method k) method e)
          (returned_at_end k n _ x
          (ends_from k n _ x l.out l.made1 0 l.later1 l.ends
          (trees_end calls left come k room _ l.out method.body l.body l.sits tt (λ node d has. record { method = method; is = e; has = has }) n s x h a)))

    comes_as : (k k' : R.K) (n after : ℕ) (to : Option ℕ) (slots : Slots) (o : Outcome Q (Traced W) (Option Value)) (x : R.X) → Returned k' n o x →
        ((v : Option Value) (g : Traced W) (y : R.X) → R.Left k' v g y → Reaches R (R.Begins k after (record { locals = with_slot to (unwrap_or v Null) slots; shared = g })) y) → Ends R k n (Unit {0}) (R.Begins k after) (comes_back to slots o) x
    comes_as k k' n after to slots (Gives v g) x r b = (reached (R.Left k' v g) _ x r.0 (λ y l. b v g y l), tt, r.1)
    comes_as k k' n after to slots (Throws t g) x r b = r
    comes_as k k' n after to slots (Asks q g) x r b = r

    -- where a frame begins, and so many may follow
    abbrev pub FramesReturn : ℕ → Type 0
    FramesReturn left = (k : R.K) (method : ℕ) (values : List Value) (g : Traced W) (n : ℕ) (x : R.X) → R.method k ≡ method → left + R.depth k ≡ max_stack → n ≤ g.shared.turns →
        R.Begins k (first_in c.firsts method) (record { locals = slots_from code method values; shared = g }) x → Returned k n (calls_in code ask (suc left) method values g) x

    frames_return : (left : ℕ) → CallsCome left (calls_in code ask left) → FramesReturn left
    frames_return left come k method values g n x e room h =
        subst (λ m. R.Begins k (first_in c.firsts m) (record { locals = slots_from code m values; shared = g }) x → Returned k n (calls_in code ask (suc left) m values g) x) e
        (λ a. subst (λ r. Returned k n (r g) x) (sym (calls_suc code ask left (R.method k) values)) (enters_as (calls_in code ask left) left come k room values g n x h (numbered code.methods (R.method k)) refl a))

    calls_come : (left : ℕ) → CallsCome left (calls_in code ask left)
    calls_come zero k made node after n to of method args values s x room there d t h a =
        subst (λ r. Ends R k n (Unit {0}) (R.Begins k after) (comes_back to s.locals (r (with_turn (noted_at node s)))) x) (sym (calls_zero code ask method values))
        (keeps.no_frame k made node after to of method args values s x there d t (omega (arith, room)) a)
    calls_come (suc left) k made node after n to of method args values s x room there d t h a =
        let e = keeps.calls k made node after to of method args values s x there d t (omega (arith, room)) a in
        let deeper = e.2 in
        ends_at k n (Unit {0}) (R.Begins k after) _ x _ e.3
        (λ y b. comes_as k e.0 n after to s.locals _ y
        (frames_return left (calls_come left) e.0 method values (with_turn (noted_at node s)) n y e.1 (omega (arith, room, deeper)) (omega (arith, h)) b) e.4)

    -- WHERE IT KEEPS EACH STATEMENT, a frame with so many to follow runs as the method does, to the same end.
    pub lift : (left : ℕ) → FramesReturn left
    lift left = frames_return left (calls_come left)
