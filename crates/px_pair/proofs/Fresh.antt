-- Reads that aren't stale.
use Rattle.std.proofs.Common.{◌≡◌, Bool, true, false, not, ◌&&◌, ◌||◌, List, [], ◌∷◌, ◌++◌, refl, sym, ap, subst, ◌∙◌, append-nil, append_assoc}
use Rattle.std.specs.List.{AllByRecursion}
use Rattle.px_value.specs.declared.object.Object.{Object}
use Rattle.px_code.specs.declared.side.Side.{Side}
use Rattle.px_code.specs.declared.side.Side.TheVariants.{App, Db}
use Rattle.px_code.specs.declared.cell.Cell.{Cell}
use Rattle.px_code.specs.declared.plan.Plan.{Plan}
use Rattle.px_code.specs.Places.{other, same_side}
use Rattle.px_code.specs.CodeRun.{Ran}
use Rattle.px_code.specs.Stale.{Event, Read, Wrote, Brought, same_cell, has_cell, is_quiet, IsStale, NoneStale}
use Rattle.px_half.specs.Messages.{is_marked}
use Rattle.px_pair.specs.Agree.{KeepsCell}
use Rattle.px_pair.specs.Fresh.{with_reads, with_writes, with_ran, IsCurrent}
use Rattle.px_pair.proofs.Heaps.{marked_more, eq_self}

-- ---- what an event does to staleness

stale_read : (at : Side) (d : Cell) (events : List Event) (side : Side) (c : Cell) → IsStale (Read at d ∷ events) side c → IsStale events side c
stale_read at d events side c s = by_later s.later s.split s.quiet
  where
    by_later : (later : List Event) → Read at d ∷ events ≡ later ++ Wrote (other side) c ∷ s.earlier → is_quiet later side c ≡ true → IsStale events side c
    by_later [] e q = cc
    by_later (x ∷ later) e q =
        let head : Read at d ≡ x = cc in
        let tail : events ≡ later ++ Wrote (other side) c ∷ s.earlier = cc in
        record { later = later; earlier = s.earlier; split = tail; quiet = subst (λ (y : Event). is_quiet (y ∷ later) side c ≡ true) (sym head) q }

second : (a b : Bool) → (a && b) ≡ true → b ≡ true
second true b h = h
second false b h = cc

first : (a b : Bool) → (a && b) ≡ true → a ≡ true
first true b h = refl
first false b h = cc

not_true : (b : Bool) → not b ≡ true → b ≡ false
not_true true h = cc
not_true false h = refl

-- behind a message the read is stale only if it was, and the message didn't bring the cell
pub stale_brought : (at : Side) (cells : List Cell) (events : List Event) (side : Side) (c : Cell) → IsStale (Brought at cells ∷ events) side c → IsStale events side c × ((same_side at side && has_cell cells c) ≡ false)
stale_brought at cells events side c s = by_later s.later s.split s.quiet
  where
    by_later : (later : List Event) → Brought at cells ∷ events ≡ later ++ Wrote (other side) c ∷ s.earlier → is_quiet later side c ≡ true → IsStale events side c × ((same_side at side && has_cell cells c) ≡ false)
    by_later [] e q = cc
    by_later (x ∷ later) e q =
        let head : Brought at cells ≡ x = cc in
        let tail : events ≡ later ++ Wrote (other side) c ∷ s.earlier = cc in
        let quiet : is_quiet (Brought at cells ∷ later) side c ≡ true = subst (λ (y : Event). is_quiet (y ∷ later) side c ≡ true) (sym head) q in
        (record { later = later; earlier = s.earlier; split = tail; quiet = second (not (same_side at side && has_cell cells c)) (is_quiet later side c) quiet }, not_true (same_side at side && has_cell cells c) (first (not (same_side at side && has_cell cells c)) (is_quiet later side c) quiet))

not_other : (side : Side) → side ≡ other side → ⊥
not_other App e = cc
not_other Db e = cc

-- behind a write at the reader's own side, or of another cell, the read is stale only if it was and the cell is another
stale_wrote_here : (d : Cell) (events : List Event) (side : Side) (c : Cell) → IsStale (Wrote side d ∷ events) side c → IsStale events side c × (same_cell d c ≡ false)
stale_wrote_here d events side c s = by_later s.later s.split s.quiet
  where
    by_later : (later : List Event) → Wrote side d ∷ events ≡ later ++ Wrote (other side) c ∷ s.earlier → is_quiet later side c ≡ true → IsStale events side c × (same_cell d c ≡ false)
    by_later [] e q = let k : side ≡ other side = cc in absurd (not_other side k)
    by_later (x ∷ later) e q =
        let head : Wrote side d ≡ x = cc in
        let tail : events ≡ later ++ Wrote (other side) c ∷ s.earlier = cc in
        let quiet : is_quiet (Wrote side d ∷ later) side c ≡ true = subst (λ (y : Event). is_quiet (y ∷ later) side c ≡ true) (sym head) q in
        (record { later = later; earlier = s.earlier; split = tail; quiet = second (not (same_cell d c)) (is_quiet later side c) quiet }, not_true (same_cell d c) (first (not (same_cell d c)) (is_quiet later side c) quiet))

stale_wrote_there : (at : Side) (d : Cell) (events : List Event) (side : Side) (c : Cell) → same_cell d c ≡ false → same_cell c c ≡ true → IsStale (Wrote at d ∷ events) side c → IsStale events side c
stale_wrote_there at d events side c apart itself s = by_later s.later s.split s.quiet
  where
    by_later : (later : List Event) → Wrote at d ∷ events ≡ later ++ Wrote (other side) c ∷ s.earlier → is_quiet later side c ≡ true → IsStale events side c
    by_later [] e q = let k : d ≡ c = cc in let m : false ≡ true = sym apart ∙ ap (λ (x : Cell). same_cell x c) k ∙ itself in cc
    by_later (x ∷ later) e q =
        let head : Wrote at d ≡ x = cc in
        let tail : events ≡ later ++ Wrote (other side) c ∷ s.earlier = cc in
        let quiet : is_quiet (Wrote at d ∷ later) side c ≡ true = subst (λ (y : Event). is_quiet (y ∷ later) side c ≡ true) (sym head) q in
        record { later = later; earlier = s.earlier; split = tail; quiet = second (not (same_cell d c)) (is_quiet later side c) quiet }

-- ---- what a statement that ran does

abbrev pub all_writes : List Ran → List Cell
all_writes [] = []
all_writes (r ∷ ran) = r.writes ++ all_writes ran

module _ (plan : Plan) (side : Side) (heap : List Object) where
  abbrev pub Current : List Cell → List Event → Type 0
  Current marks events = IsCurrent plan side heap marks events

  abbrev pub AllKept : List Cell → Type 0
  AllKept cells = AllByRecursion (λ (c : Cell). KeepsCell plan side heap c.object c.index) cells

  after_read : (d : Cell) (marks : List Cell) (events : List Event) → Current marks events → Current marks (Read side d ∷ events)
  after_read d marks events h = record {
    here = λ c kept s. h.here c kept (stale_read side d events side c s);
    there = λ c kept m s. h.there c kept m (stale_read side d events (other side) c s);
  }

  reads_fresh : (cells marks : List Cell) (events : List Event) → AllKept cells → Current marks events → NoneStale events → Current marks (with_reads side cells events) × NoneStale (with_reads side cells events)
  reads_fresh [] marks events kept h n = (h, n)
  reads_fresh (c ∷ cells) marks events kept h n = reads_fresh cells marks (Read side c ∷ events) kept.1 (after_read c marks events h) (h.here c kept.0, n)

  same_self : (c : Cell) → same_cell c c ≡ true
  same_self c = (λ i. eq_self c.object i && eq_self c.index i)

  -- what isn't marked now wasn't marked, and isn't this cell
  unmarked : (a b : Bool) → (a || b) ≡ false → (a ≡ false) × (b ≡ false)
  unmarked true b h = cc
  unmarked false b h = (refl, h)

  last_is : (d c : Cell) → is_marked (d ∷ []) c.object c.index ≡ false → same_cell d c ≡ false
  last_is d c h = let k : (same_cell d c ≡ false) × (false ≡ false) = unmarked (same_cell d c) false h in k.0

  after_write : (d : Cell) (marks : List Cell) (events : List Event) → Current marks events → Current (marks ++ d ∷ []) (Wrote side d ∷ events)
  after_write d marks events h = record {
    here = λ c kept s. h.here c kept (stale_wrote_here d events side c s).0;
    there = λ c kept m s.
        let k : (is_marked marks c.object c.index ≡ false) × (is_marked (d ∷ []) c.object c.index ≡ false) = unmarked (is_marked marks c.object c.index) (is_marked (d ∷ []) c.object c.index) (sym (marked_more marks (d ∷ []) c.object c.index) ∙ m) in
        h.there c kept k.0 (stale_wrote_there side d events (other side) c (last_is d c k.1) (same_self c) s);
  }

  writes_fresh : (cells marks : List Cell) (events : List Event) → Current marks events → NoneStale events → Current (marks ++ cells) (with_writes side cells events) × NoneStale (with_writes side cells events)
  writes_fresh [] marks events h n = (subst (λ (ms : List Cell). Current ms events) (sym (append-nil marks)) h, n)
  writes_fresh (c ∷ cells) marks events h n =
      let rest : Current ((marks ++ c ∷ []) ++ cells) (with_writes side cells (Wrote side c ∷ events)) × NoneStale (with_writes side cells (Wrote side c ∷ events)) = writes_fresh cells (marks ++ c ∷ []) (Wrote side c ∷ events) (after_write c marks events h) n in
      (subst (λ (ms : List Cell). Current ms (with_writes side cells (Wrote side c ∷ events))) (append_assoc marks (c ∷ []) cells) rest.0, rest.1)

  abbrev pub RanKept : List Ran → Type 0
  RanKept ran = AllByRecursion (λ (r : Ran). AllKept r.reads) ran

  pub ran_fresh : (ran : List Ran) (marks : List Cell) (events : List Event) → RanKept ran → Current marks events → NoneStale events → Current (marks ++ all_writes ran) (with_ran side ran events) × NoneStale (with_ran side ran events)
  ran_fresh [] marks events kept h n = (subst (λ (ms : List Cell). Current ms events) (sym (append-nil marks)) h, n)
  ran_fresh (r ∷ ran) marks events kept h n =
      let read = reads_fresh r.reads marks events kept.0 h n in
      let wrote = writes_fresh r.writes marks (with_reads side r.reads events) read.0 read.1 in
      let rest = ran_fresh ran (marks ++ r.writes) (with_writes side r.writes (with_reads side r.reads events)) kept.1 wrote.0 wrote.1 in
      (subst (λ (ms : List Cell). Current ms (with_ran side (r ∷ ran) events)) (append_assoc marks r.writes (all_writes ran)) rest.0, rest.1)
