-- Messages are read as they are spelled.
use Rattle.std.proofs.Common.{◌≡◌, ℕ, ◌==◌, ◌↔◌, cond, eqb, List, [], ◌∷◌, ◌++◌, length, Option, Some, None, inl, inr, refl, sym, ap, subst, ◌∙◌, append_assoc}
use Rattle.std.specs.Prelude.{⊤}
use Rattle.std.proofs.lemmas.Bool.{eqb-true}
use Rattle.std.proofs.lemmas.List.{append-nil, nil_from_length}
use Rattle.px_value.specs.declared.header.Header.{Header}
use Rattle.px_wire.specs.declared.frame.Frame.{Frame}
use Rattle.px_wire.specs.declared.slot.SlotAt.{SlotAt}
use Rattle.px_wire.specs.declared.cell.CellAt.{CellAt}
use Rattle.px_wire.specs.declared.updates.Updates.{Updates}
use Rattle.px_wire.specs.declared.transfer.Transfer.{Transfer as TransferData}
use Rattle.px_wire.specs.declared.message.Message.{Message}
use Rattle.px_wire.specs.declared.message.Message.TheVariants.{Transfer, Commit}
use Rattle.px_wire.specs.Spelling.{updates_bytes, transfer_bytes, spelling}
use Rattle.px_wire.specs.Fitting.{HasShortText, HasSpelling, IsInRange, SlotIsInRange, CellIsInRange, UpdatesHaveSpelling, UpdatesAreInRange, TransferHasSpelling, TransferIsInRange}
use Rattle.px_wire.specs.Reading.{◌>>=◌, updates_at, transfer_at, transfer_message_at, commit_at, message_at, message_of}
use Rattle.px_wire.specs.Wording.{SpellingsDiffer}
use Rattle.px_wire.proofs.Readers.{IsBytes, Taken, Reads, bind_some, some_is, chosen, guard_some, then_goes, last_goes, reads_of}
use Rattle.px_wire.proofs.NumbersRead.{IsBytes-rest, u8_reads, u32_reads}
use Rattle.px_wire.proofs.ListsRead.{all_firsts, all_seconds, all_both, counted_reads}
use Rattle.px_wire.proofs.PartsRead.{header_reads, frames_reads, slots_reads, cells_reads}

-- ---- updates

abbrev UpdatesFit : Updates → Type 0
UpdatesFit u = UpdatesAreInRange u × UpdatesHaveSpelling u

abbrev updates_of : List Header → List CellAt → Updates
updates_of headers cells = record { headers = headers; cells = cells }

updates_reads : Reads UpdatesFit updates_bytes updates_at
unfolding updates_at
updates_reads =
    reads_of UpdatesFit updates_bytes
    (then_goes (λ u. u.headers) _ (counted_reads header_reads) (λ headers.
    last_goes (λ u. u.cells) (updates_of headers) cells_reads (λ cells. (tt, refl)) (λ cells. refl) (λ u known. ap (λ hs. updates_of hs u.cells) (sym known.1))))
    (λ u. simp append_assoc)
    (λ u f. (
      record { headers = f.0.1; cells = all_firsts CellIsInRange (λ c. HasShortText c.value) u.cells f.1.0.1 },
      record { headers_counted = f.0.0; cells_counted = f.1.0.0; texts = all_seconds CellIsInRange (λ c. HasShortText c.value) u.cells f.1.0.1; in_order = f.1.1 },
    ))
    (λ u f. ((f.1.headers_counted, f.0.headers), ((f.1.cells_counted, all_both CellIsInRange (λ c. HasShortText c.value) u.cells f.0.cells f.1.texts), f.1.in_order)))

-- ---- transfers

abbrev TransferFits : TransferData → Type 0
TransferFits t = TransferIsInRange t × TransferHasSpelling t

abbrev transfer_of : ℕ → ℕ → ℕ → List Frame → List SlotAt → Updates → TransferData
transfer_of block turns base frames slots updates = record { block = block; turns = turns; base = base; frames = frames; slots = slots; updates = updates }

abbrev Known1 : ℕ → TransferData → Type 0
Known1 block t = ⊤ × (t.block ≡ block)

abbrev Known2 : ℕ → ℕ → TransferData → Type 0
Known2 block turns t = Known1 block t × (t.turns ≡ turns)

abbrev Known3 : ℕ → ℕ → ℕ → TransferData → Type 0
Known3 block turns base t = Known2 block turns t × (t.base ≡ base)

abbrev Known4 : ℕ → ℕ → ℕ → List Frame → TransferData → Type 0
Known4 block turns base frames t = Known3 block turns base t × (t.frames ≡ frames)

abbrev Known5 : ℕ → ℕ → ℕ → List Frame → List SlotAt → TransferData → Type 0
Known5 block turns base frames slots t = Known4 block turns base frames t × (t.slots ≡ slots)

made_again : (block turns base : ℕ) (frames : List Frame) (slots : List SlotAt) (t : TransferData) → Known5 block turns base frames slots t → transfer_of block turns base frames slots t.updates ≡ t
made_again block turns base frames slots t known =
    ap (λ x. transfer_of x turns base frames slots t.updates) (sym known.0.0.0.0.1)
    ∙ ap (λ x. transfer_of t.block x base frames slots t.updates) (sym known.0.0.0.1)
    ∙ ap (λ x. transfer_of t.block t.turns x frames slots t.updates) (sym known.0.0.1)
    ∙ ap (λ x. transfer_of t.block t.turns t.base x slots t.updates) (sym known.0.1)
    ∙ ap (λ x. transfer_of t.block t.turns t.base t.frames x t.updates) (sym known.1)

transfer_reads : Reads TransferFits transfer_bytes transfer_at
unfolding transfer_at
transfer_reads =
    reads_of TransferFits transfer_bytes
    (then_goes (λ t. t.block) _ u32_reads (λ block.
    then_goes (λ t. t.turns) _ u32_reads (λ turns.
    then_goes (λ t. t.base) _ u8_reads (λ base.
    then_goes (λ t. t.frames) _ frames_reads (λ frames.
    then_goes (λ t. t.slots) _ slots_reads (λ slots.
    last_goes (λ t. t.updates) (transfer_of block turns base frames slots) updates_reads (λ updates. (((((tt, refl), refl), refl), refl), refl)) (λ updates. refl) (made_again block turns base frames slots)))))))
    (λ t. simp append_assoc)
    (λ t f. (
      record { block = f.0; turns = f.1.0; base = f.1.1.0; frames = f.1.1.1.0.1; slots = all_firsts SlotIsInRange (λ s. HasShortText s.value) t.slots f.1.1.1.1.0.0.1; updates = f.1.1.1.1.1.0 },
      record { frames_counted = f.1.1.1.0.0; slots_counted = f.1.1.1.1.0.0.0; texts = all_seconds SlotIsInRange (λ s. HasShortText s.value) t.slots f.1.1.1.1.0.0.1; in_order = f.1.1.1.1.0.1; updates = f.1.1.1.1.1.1 },
    ))
    (λ t f. (f.0.block, (f.0.turns, (f.0.base, ((f.1.frames_counted, f.0.frames), (((f.1.slots_counted, all_both SlotIsInRange (λ s. HasShortText s.value) t.slots f.0.slots f.1.texts), f.1.in_order), (f.0.updates, f.1.updates)))))))

-- ---- messages

abbrev Fits : Message → Type 0
Fits m = IsInRange m × HasSpelling m

-- x was read behind a first byte
abbrev Behind : ℕ → List ℕ → Message × List ℕ → Type 0
Behind first bytes x = Taken Fits spelling (first ∷ bytes) x

transfer-taken : (bytes : List ℕ) (x : Message × List ℕ) → IsBytes bytes → transfer_message_at bytes ≡ Some x → Behind 1 bytes x
unfolding transfer_message_at
transfer-taken bytes x fits e =
    let a = bind_some (transfer_at bytes) (λ t. Some (Transfer t.0, t.1)) x e in
    let p = transfer_reads.taken bytes a.0 fits a.1 in
    let made : Message × List ℕ = (Transfer a.0.0, a.0.1) in
    subst (λ (y : Message × List ℕ). Behind 1 bytes y) (some_is made x a.2) (record { parts = ap (λ y. 1 ∷ y) p.parts; rest = p.rest; fits = (p.fits.0, p.fits.1) })

commit-taken : (bytes : List ℕ) (x : Message × List ℕ) → IsBytes bytes → commit_at bytes ≡ Some x → Behind 4 bytes x
unfolding commit_at
commit-taken bytes x fits e =
    let a = bind_some (updates_at bytes) (λ u. Some (Commit u.0, u.1)) x e in
    let p = updates_reads.taken bytes a.0 fits a.1 in
    let made : Message × List ℕ = (Commit a.0.0, a.0.1) in
    subst (λ (y : Message × List ℕ). Behind 4 bytes y) (some_is made x a.2) (record { parts = ap (λ y. 4 ∷ y) p.parts; rest = p.rest; fits = (p.fits.0, p.fits.1) })

-- the reader of a first byte, or what is tried behind it
by_first : (first this : ℕ) (bytes : List ℕ) (x : Message × List ℕ) (here others : Option (Message × List ℕ)) → cond (first == this) here others ≡ Some x → (here ≡ Some x → Behind this bytes x) → (others ≡ Some x → Behind first bytes x) → Behind first bytes x
by_first first this bytes x here others e taken others_taken =
    elim (chosen (first == this) here others (Some x) e) [
      | inl h ↦ subst (λ n. Behind n bytes x) (sym (eqb-true first this h.0)) (taken h.1)
      | inr h ↦ others_taken h.1
    ]

message-taken : (bytes : List ℕ) (x : Message × List ℕ) → IsBytes bytes → message_at bytes ≡ Some x → Taken Fits spelling bytes x
unfolding message_at
message-taken [] x fits e = absurd cc
message-taken (first ∷ bytes) x fits e =
    let is_bytes = IsBytes-rest first bytes fits in
    by_first first 1 bytes x _ _ e (transfer-taken bytes x is_bytes) (λ e1.
    by_first first 4 bytes x _ _ e1 (commit-taken bytes x is_bytes) (λ e2. absurd cc))

message-again : (m : Message) (rest : List ℕ) → Fits m → message_at (spelling m ++ rest) ≡ Some (m, rest)
unfolding message_at transfer_message_at commit_at
message-again (Transfer t) rest fits = ap (λ o. o >>= λ x. Some (Transfer x.0, x.1)) (transfer_reads.again t rest (fits.0, fits.1))
message-again (Commit u) rest fits = ap (λ o. o >>= λ x. Some (Commit x.0, x.1)) (updates_reads.again u rest (fits.0, fits.1))

-- ---- all of the bytes

pub message_of-taken : (bytes : List ℕ) (m : Message) → IsBytes bytes → message_of bytes ≡ Some m → IsInRange m × HasSpelling m × (spelling m ≡ bytes)
unfolding message_of
message_of-taken bytes m fits e =
    let a = bind_some (message_at bytes) (λ x. cond (eqb (length x.1) 0) (Some x.0) None) m e in
    let g = guard_some (eqb (length a.0.1) 0) a.0.0 m a.2 in
    let p = message-taken bytes a.0 fits a.1 in
    let nothing : a.0.1 ≡ [] = nil_from_length a.0.1 (eqb-true _ _ g.0) in
    let whole : spelling a.0.0 ≡ bytes = sym (p.parts ∙ ap (λ r. spelling a.0.0 ++ r) nothing ∙ append-nil (spelling a.0.0)) in
    subst (λ (n : Message). IsInRange n × HasSpelling n × (spelling n ≡ bytes)) g.1 (p.fits.0, p.fits.1, whole)

pub message_of-again : (bytes : List ℕ) (m : Message) → IsInRange m × HasSpelling m × (spelling m ≡ bytes) → message_of bytes ≡ Some m
unfolding message_of
message_of-again bytes m h =
    let all : bytes ≡ spelling m ++ [] = sym h.2 ∙ sym (append-nil (spelling m)) in
    ap message_of all ∙ ap (λ o. o >>= λ x. cond (eqb (length x.1) 0) (Some x.0) None) (message-again m [] (h.0, h.1))

-- what is read is the message that the bytes spell
pub message_of-is : (bytes : List ℕ) → IsBytes bytes → (found : Option Message) → message_of bytes ≡ found → (m : Message) → (found ≡ Some m) ↔ (IsInRange m × HasSpelling m × (spelling m ≡ bytes))
message_of-is bytes fits found e m = ((λ k. message_of-taken bytes m fits (e ∙ k)), (λ h. sym e ∙ message_of-again bytes m h))

pub spellings_differ : SpellingsDiffer
spellings_differ m n mr nr ms ns e =
    some_is m n (sym (message_of-again (spelling m) m (mr, ms, refl)) ∙ message_of-again (spelling m) n (nr, ns, sym e))
