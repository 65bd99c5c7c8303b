-- The sends that are put are those that statements need.
use Rattle.std.proofs.Common.{◌≡◌, ℕ, zero, Bool, true, false, List, [], length, replicate, Option, Some, None, is_some, refl, sym, ap, ◌∙◌, ⊎_elim, subst, if◌then◌else◌}
use Rattle.px_constraints.specs.System.{At}
use Rattle.px_normal.specs.declared.word.Operand.{Operand}
use Rattle.px_normal.specs.declared.word.Operand.TheVariants.{Slot, Literal}
use Rattle.px_normal.specs.declared.word.Word.{Word}
use Rattle.px_normal.specs.declared.word.Word.TheVariants as w
use Rattle.px_normal.specs.declared.code.Code.{Code}
use Rattle.px_normal.specs.First.{numbered}
use Rattle.px_flow_points.specs.declared.part.Part.{Part}
use Rattle.px_flow_points.specs.Statements.{HasStatement}
use Rattle.px_flow_points.specs.Points.{WritesPart}
use Rattle.px_flow_points.specs.Points as points
use Rattle.px_flow_points.specs.ByNode.{Found, AreTouched}
use Rattle.px_flow_points.proofs.Elements.{in_one}
use Rattle.px_blocks.specs.declared.side.Side.{Side}
use Rattle.px_blocks.specs.declared.block.Send.{Send}
use Rattle.px_blocks.specs.declared.block.SendKind.{SendKind}
use Rattle.px_blocks.specs.declared.block.SendKind.TheVariants as kind
use Rattle.px_blocks.specs.Rules.{send_in}
use Rattle.px_sync.specs.Homes.{field_home}
use Rattle.px_sync.specs.Sends.{kind_at, send, send_after, NeedsSend, IsRightSend, IsOwn, HasSends}
use Rattle.px_sync.specs.declared.sent.Sent.{Sent}
use Rattle.px_sync.specs.Found.{Reads, reads_at, needs, sent_of, sent_by, one_if, Placing, placing, word_sent, methods_sent, sending, with_all}
use Rattle.px_sync.proofs.Keeping.{needs_to, needs_back}
use Rattle.px_sync.proofs.SentWhere.{comes_to, comes_back}
use Rattle.px_sync.proofs.Putting.{HasSend, IsOf, all_from, all_put, all_size, no_send, place_there, none_size}

-- ---- a word

-- what is sent is the send after the word
pub record IsAfter (code : Code) (sides : List Side) (node : ℕ) (word : Word) (k : Sent) : Type 0 where
  pub node_is : k.node ≡ node
  pub after : send_after code sides word ≡ Some (sending k)

record OfOperand (node : ℕ) (j : SendKind) (a : Operand) (k : Sent) : Type 0 where
  node_is : k.node ≡ node
  after : send j a ≡ Some (sending k)

none_left : (k : Sent) → At [] k → ⊥
none_left k h = cc

operand_sent : (node : ℕ) (j : SendKind) (a : Operand) (k : Sent) → At (one_if (sent_of node j a)) k → OfOperand node j a k
operand_sent node j (Slot n) k h = let e = in_one (record { node = node; kind = j; slot = n }) k h in record { node_is = sym (ap (λ (z : Sent). z.node) e); after = ap (λ (z : Sent). Some (sending z)) e }
operand_sent node j (Literal v) k h = absurd (none_left k h)

module _ (code : Code) (sides : List Side) (node : ℕ) (k : Sent) where
  abbrev After : Word → Type 0
  After word = At (one_if (sent_by code sides node word)) k → IsAfter code sides node word k

  sent_after : (word : Word) → After word
  sent_after (w.Set to a) h = absurd (none_left k h)
  sent_after (w.Op o to a b) h = absurd (none_left k h)
  sent_after (w.Get to of class field) h = absurd (none_left k h)
  sent_after (w.Put of class field a) h = let r = operand_sent node (kind_at (field_home code sides class field)) of k h in record { node_is = r.node_is; after = r.after }
  sent_after (w.Load to of index) h = absurd (none_left k h)
  sent_after (w.Store of index a) h = let r = operand_sent node kind.Native of k h in record { node_is = r.node_is; after = r.after }
  sent_after (w.Len to of) h = absurd (none_left k h)
  sent_after (w.New to class site) h = absurd (none_left k h)
  sent_after (w.Array to element size site) h = absurd (none_left k h)
  sent_after (w.Call to of method args) h = absurd (none_left k h)
  sent_after (w.Query to number site params) h = let r = operand_sent node kind.Native (Slot to) k h in record { node_is = r.node_is; after = r.after }
  sent_after (w.Update to number params) h = absurd (none_left k h)
  sent_after (w.Next to of) h = let r = operand_sent node kind.Native of k h in record { node_is = r.node_is; after = r.after }
  sent_after (w.Long to of column) h = absurd (none_left k h)
  sent_after (w.Text to of column) h = absurd (none_left k h)
  sent_after (w.Print a) h = absurd (none_left k h)
  sent_after (w.Return a) h = absurd (none_left k h)

-- something is sent after the word, at the node
record SendsOne (code : Code) (sides : List Side) (node : ℕ) (word : Word) : Type 0 where
  sent : Sent
  node_is : sent.node ≡ node
  at : At (one_if (sent_by code sides node word)) sent

writes_send : (code : Code) (sides : List Side) (m node s : ℕ) (word : Word) (part : Part) → WritesPart code m word s part → SendsOne code sides node word
writes_send code sides m node s word part (points.WritesPart.put {of = of} {class = class} {field = field} p) = record { sent = record { node = node; kind = kind_at (field_home code sides class field); slot = of }; node_is = refl; at = (zero, refl) }
writes_send code sides m node s word part (points.WritesPart.store {of = of} p) = record { sent = record { node = node; kind = kind.Native; slot = of }; node_is = refl; at = (zero, refl) }
writes_send code sides m node s word part (points.WritesPart.next {of = of} p) = record { sent = record { node = node; kind = kind.Native; slot = of }; node_is = refl; at = (zero, refl) }
writes_send code sides m node s word part (points.WritesPart.query {to = to}) = record { sent = record { node = node; kind = kind.Native; slot = to }; node_is = refl; at = (zero, refl) }

-- ---- code

module _ (code : Code) (sides : List Side) (P : Found) (T : AreTouched code P) where
  abbrev Q : Placing
  Q = placing code sides (reads_at sides P.reads) P

  abbrev needed : ℕ → Bool
  needed node = needs code sides (reads_at sides P.reads) P.writes node

  -- a statement with its send
  record Asks (node : ℕ) (word : Word) (k : Sent) : Type 0 where
    needs_it : NeedsSend code sides node
    is : IsAfter code sides node word k

  word_if : (b : Bool) (node : ℕ) (word : Word) (k : Sent) → needed node ≡ b → At (if b then one_if (sent_by code sides node word) else []) k → Asks node word k
  word_if true node word k e h = record { needs_it = needs_to code sides P T node e; is = sent_after code sides node k word h }
  word_if false node word k e h = absurd (none_left k h)

  word_to : (node : ℕ) (word : Word) (k : Sent) → At (word_sent Q node word) k → Asks node word k
  word_to node word k h = word_if (needed node) node word k refl h

  word_back : (node : ℕ) (word : Word) (k : Sent) → NeedsSend code sides node → At (one_if (sent_by code sides node word)) k → At (word_sent Q node word) k
  word_back node word k n h = subst (λ (b : Bool). At (if b then one_if (sent_by code sides node word) else []) k) (sym (needs_back code sides P T node n)) h

  abbrev first : List (Option Send)
  first = replicate (length code.nodes) None

  abbrev made : List (Option Send)
  made = with_all (methods_sent Q code.methods) first

  -- where a send comes from
  record FromAsking (node : ℕ) (x : Send) : Type 0 where
    method : ℕ
    word : Word
    has : HasStatement code method node word
    needs_it : NeedsSend code sides node
    after : send_after code sides word ≡ Some x

  from : (node : ℕ) (x : Send) → numbered made node ≡ Some (Some x) → FromAsking node x
  from node x h = ⊎_elim
      (λ (u : numbered first node ≡ Some (Some x)). absurd (no_send (length code.nodes) node x u))
      (λ (u : IsOf (methods_sent Q code.methods) node x).
      let r = comes_to Q u.sent code u.at in
      let a = word_to r.node r.word u.sent r.at in
      let n : r.node ≡ node = sym a.is.node_is ∙ u.node_is in
      record {
        method = r.method;
        word = r.word;
        has = subst (λ j. HasStatement code r.method j r.word) n r.has;
        needs_it = subst (λ j. NeedsSend code sides j) n a.needs_it;
        after = a.is.after ∙ ap (λ (z : Send). Some z) u.send_is;
      })
      (all_from (methods_sent Q code.methods) first node x h)

  put_there : (m node : ℕ) (word : Word) → HasStatement code m node word → IsOwn code node → NeedsSend code sides node → HasSend made node
  put_there m node word has own n =
      let writer = n.writes in
      let o = writes_send code sides writer.method node n.site writer.word n.part writer.writes in
      let at = comes_back Q o.sent code writer.method node writer.word writer.has (word_back node writer.word o.sent n o.at) in
      subst (HasSend made) o.node_is (all_put (methods_sent Q code.methods) first o.sent at (subst (λ j. is_some (numbered first j) ≡ true) (sym o.node_is) (place_there code.nodes node own.there)))

  not_none : (o : Option (Option Send)) (x : Send) → o ≡ Some (Some x) → send_in o ≡ None → ⊥
  not_none o x e h = cc

  right_at : (o : Option (Option Send)) (m node : ℕ) (word : Word) → numbered made node ≡ o → HasStatement code m node word → IsOwn code node → IsRightSend code sides node word (send_in o)
  right_at None m node word e has own = λ n. let h = put_there m node word has own n in not_none (numbered made node) h.send h.is (ap send_in e)
  right_at (Some None) m node word e has own = λ n. let h = put_there m node word has own n in not_none (numbered made node) h.send h.is (ap send_in e)
  right_at (Some (Some x)) m node word e has own = let f = from node x e in (f.needs_it, ap (send_after code sides) (own.one m f.method word f.word has f.has) ∙ f.after)

  none_at : (o : Option (Option Send)) (node : ℕ) → numbered made node ≡ o → ((m : ℕ) (word : Word) → HasStatement code m node word → ⊥) → send_in o ≡ None
  none_at None node e none = refl
  none_at (Some None) node e none = refl
  none_at (Some (Some x)) node e none = let f = from node x e in absurd (none f.method f.word f.has)

  pub are_sends : HasSends code sides (record { sides = sides; sends = made })
  are_sends = record {
    sides_are = refl;
    size = all_size (methods_sent Q code.methods) first ∙ none_size (length code.nodes);
    right = λ m node word has own. right_at (numbered made node) m node word refl has own;
    no_more = λ node none. none_at (numbered made node) node refl none;
  }

-- what the body has in hand
pub has_sends : (code : Code) (sides : List Side) (P : Found) (one two : List Side) (kept : Reads) (list : List Sent) (size : ℕ) (sends : List (Option Send)) → AreTouched code P → one ≡ sides → two ≡ sides → kept ≡ reads_at one P.reads → list ≡ methods_sent (placing code two kept P) code.methods → size ≡ length code.nodes → sends ≡ with_all list (replicate size None) → HasSends code sides (record { sides = sides; sends = sends })
has_sends code sides P one two kept list size sends T a b k e n f =
    let q : kept ≡ reads_at sides P.reads = k ∙ ap (λ (z : List Side). reads_at z P.reads) a in
    let l : list ≡ methods_sent (placing code sides (reads_at sides P.reads) P) code.methods =
    e
    ∙ ap (λ (z : List Side). methods_sent (placing code z kept P) code.methods) b
    ∙ ap (λ (z : Reads). methods_sent (placing code sides z P) code.methods) q in
    subst (λ (z : List (Option Send)). HasSends code sides (record { sides = sides; sends = z }))
    (sym (f
    ∙ ap (λ (z : List Sent). with_all z (replicate size None)) l
    ∙ ap (λ j. with_all (methods_sent (placing code sides (reads_at sides P.reads) P) code.methods) (replicate j None)) n))
    (are_sends code sides P T)
