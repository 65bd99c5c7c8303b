-- Both ends together have the one heap, and a new plan leaves it.
use Rattle.std.proofs.Common.{◌≡◌, ℕ, Bool, true, false, cond, not, ◌&&◌, ◌||◌, List, Option, Some, None, is_some, refl, sym, ap, ◌∙◌, ◌⊎◌, inl, inr}
use Rattle.std.proofs.lemmas.Bool.{cases_Bool}
use Rattle.px_value.specs.declared.value.Value.{Value}
use Rattle.px_value.specs.declared.header.Header.{Header}
use Rattle.px_value.specs.declared.object.Object.{Object}
use Rattle.px_value.specs.Heap.{cell_at}
use Rattle.px_blocks.specs.declared.side.Side.{Side}
use Rattle.px_blocks.specs.declared.side.Side.TheVariants.{App, Db}
use Rattle.px_blocks.specs.Sides.{other, same_side}
use Rattle.px_effects.specs.Act.{Place as Cell, header_at}
use Rattle.px_blocks.specs.Plan.{Plan, kept, home_at, part_of}
use Rattle.px_blocks.specs.Machine.{marked, Control}
use Rattle.px_ends.specs.Agree.{lacks_of}
use Rattle.px_ends.specs.Merged.{KeepsHome, MergedIsOne, MergedAtRest, AreNewlyKept, rehomed_db, rehomed_app, RehomeRests}
use Rattle.px_ends.proofs.Places.{same_headers, headers_valued, cell_valued}

-- ---- homes are kept

home_kept : (plan : Plan) → KeepsHome plan → (h : Option Header) (i : ℕ) → kept plan (home_at plan h i) h i ≡ true
home_kept plan k None i = refl
home_kept plan k (Some h) i = k h.site (part_of h.kind i)

here_kept : (plan : Plan) (side : Side) → KeepsHome plan → (h : Option Header) (i : ℕ) → same_side side (home_at plan h i) ≡ true → kept plan side h i ≡ true
here_kept plan side k h i e = pick side (home_at plan h i) (home_kept plan k h i) e
  where
    pick : (x y : Side) → kept plan y h i ≡ true → same_side x y ≡ true → kept plan x h i ≡ true
    pick App App q e = q
    pick App Db q e = cc
    pick Db App q e = cc
    pick Db Db q e = q

there_kept : (plan : Plan) (side : Side) → KeepsHome plan → (h : Option Header) (i : ℕ) → same_side side (home_at plan h i) ≡ false → kept plan (other side) h i ≡ true
there_kept plan side k h i e = pick side (home_at plan h i) (home_kept plan k h i) e
  where
    pick : (x y : Side) → kept plan y h i ≡ true → same_side x y ≡ false → kept plan (other x) h i ≡ true
    pick App App q e = cc
    pick App Db q e = q
    pick Db App q e = q
    pick Db Db q e = cc

-- ---- in a call

merged_one : (written lacks homed : Bool) (near far one : Option Value) → (written ≡ true → near ≡ one) → (lacks ≡ true → near ≡ one) → (homed ≡ true → near ≡ one) → (homed ≡ false → lacks ≡ false → written ≡ false → far ≡ one) → cond (written || lacks) near (cond homed near far) ≡ one
merged_one true lacks homed near far one w l h f = w refl
merged_one false true homed near far one w l h f = l refl
merged_one false false true near far one w l h f = h refl
merged_one false false false near far one w l h f = f refl refl refl

pub merged_is_one : MergedIsOne
merged_is_one plan side near far one o i k split =
    let heaps = split.heaps in
    let c = heaps.holds o i in
    let e : header_at near.heap o ≡ header_at one.heap o = same_headers near.heap one.heap o heaps.near_headers in
    (λ j. cond (marked (m j) o i || lacks_of (header_at far.heap o) (e j)) (cell_at near.heap o i) (cond (same_side side (home_at plan (e j) i)) (cell_at near.heap o i) (cell_at far.heap o i)))
    ∙ merged_one (marked one.control.marks o i) (lacks_of (header_at far.heap o) (header_at one.heap o)) (same_side side (home_at plan (header_at one.heap o) i)) (cell_at near.heap o i) (cell_at far.heap o i) (cell_at one.heap o i)
    c.near_written c.new_near
    (λ q. c.near_kept (here_kept plan side k (header_at one.heap o) i q))
    (λ q. c.far_kept (there_kept plan side k (header_at one.heap o) i q))
  where
    m : near.control.marks ≡ one.control.marks
    m = ap (λ (c : Control). c.marks) split.control

-- ---- at rest

pub merged_at_rest_is_one : MergedAtRest
merged_at_rest_is_one plan app db one o i k r =
    let c = r.copies o i in
    let e : header_at app o ≡ header_at one o = same_headers app one o r.app_headers in
    (λ j. cond (same_side App (home_at plan (e j) i)) (cell_at app o i) (cell_at db o i))
    ∙ pick (same_side App (home_at plan (header_at one o) i)) (λ q. c.app_kept (here_kept plan App k (header_at one o) i q)) (λ q. c.db_kept (there_kept plan App k (header_at one o) i q))
  where
    pick : (b : Bool) → (b ≡ true → cell_at app o i ≡ cell_at one o i) → (b ≡ false → cell_at db o i ≡ cell_at one o i) → cond b (cell_at app o i) (cell_at db o i) ≡ cell_at one o i
    pick true f g = f refl
    pick false f g = g refl

-- ---- another plan

-- what a side doesn't keep the other one does
other_keeps : (plan : Plan) (side : Side) → KeepsHome plan → (h : Option Header) (i : ℕ) → kept plan side h i ≡ false → kept plan (other side) h i ≡ true
other_keeps plan side k h i e = pick (cases_Bool (same_side side (home_at plan h i)))
  where
    apart : (b : Bool) → b ≡ true → b ≡ false → ⊥
    apart b e f = cc

    pick : (same_side side (home_at plan h i) ≡ true) ⊎ (same_side side (home_at plan h i) ≡ false) → kept plan (other side) h i ≡ true
    pick (inl q) = absurd (apart (kept plan side h i) (here_kept plan side k h i q) e)
    pick (inr q) = there_kept plan side k h i q

-- a cell that the message brings, or that was kept before
brought : (to kept_new kept_old : Bool) (from at one : Option Value) → to ≡ (kept_new && not kept_old) → kept_new ≡ true → (kept_old ≡ false → from ≡ one) → (kept_old ≡ true → at ≡ one) → cond to from at ≡ one
brought to kn true from at one e k f g = ap (λ b. cond b from at) (e ∙ (λ j. k j && false)) ∙ g refl
brought to kn false from at one e k f g = ap (λ b. cond b from at) (e ∙ (λ j. k j && true)) ∙ f refl

there_both : (b : Bool) (x y z : Option Value) → is_some x ≡ is_some z → is_some y ≡ is_some z → is_some (cond b x y) ≡ is_some z
there_both true x y z e f = e
there_both false x y z e f = f

both_none : (x z : Option Value) → is_some x ≡ is_some z → is_some z ≡ false → x ≡ z
both_none None None e f = refl
both_none None (Some z) e f = cc
both_none (Some x) None e f = cc
both_none (Some x) (Some z) e f = cc

pub rehome_rests : RehomeRests
rehome_rests old new app db one to_db to_app k r ndb napp = record {
  app_headers = headers_valued new_db to_app app ∙ r.app_headers;
  db_headers = headers_valued app to_db db ∙ r.db_headers;
  copies = λ o i. let c = r.copies o i in record {
    app_there = ap is_some (app_cell o i) ∙ there_both (marked to_app o i) (cell_at new_db o i) (cell_at app o i) (cell_at one o i) (db_there o i) c.app_there;
    db_there = db_there o i;
    app_kept = λ q. app_kept o i q (cases_Bool (is_some (cell_at one o i)));
    db_kept = λ q. db_kept o i q (cases_Bool (is_some (cell_at one o i)));
  };
}
  where
    new_db : List Object
    new_db = rehomed_db to_db app db

    new_app : List Object
    new_app = rehomed_app to_db to_app app db

    at_app_header : (o : ℕ) → header_at app o ≡ header_at one o
    at_app_header o = same_headers app one o r.app_headers

    db_cell : (o i : ℕ) → cell_at new_db o i ≡ cond (marked to_db o i) (cell_at app o i) (cell_at db o i)
    db_cell o i = let c = r.copies o i in cell_valued app to_db db o i (c.db_there ∙ sym c.app_there)

    db_there : (o i : ℕ) → is_some (cell_at new_db o i) ≡ is_some (cell_at one o i)
    db_there o i = let c = r.copies o i in ap is_some (db_cell o i) ∙ there_both (marked to_db o i) (cell_at app o i) (cell_at db o i) (cell_at one o i) c.app_there c.db_there

    app_cell : (o i : ℕ) → cell_at new_app o i ≡ cond (marked to_app o i) (cell_at new_db o i) (cell_at app o i)
    app_cell o i = let c = r.copies o i in cell_valued new_db to_app app o i (c.app_there ∙ sym (db_there o i))

    newly : (side : Side) (cells : List Cell) → AreNewlyKept old new side app cells → (o i : ℕ) → is_some (cell_at one o i) ≡ true → marked cells o i ≡ (kept new side (header_at one o) i && not (kept old side (header_at one o) i))
    newly side cells n o i e = let c = r.copies o i in n o i (c.app_there ∙ e) ∙ (λ j. kept new side (at_app_header o j) i && not (kept old side (at_app_header o j) i))

    db_kept : (o i : ℕ) → kept new Db (header_at one o) i ≡ true → (is_some (cell_at one o i) ≡ true) ⊎ (is_some (cell_at one o i) ≡ false) → cell_at new_db o i ≡ cell_at one o i
    db_kept o i q (inl e) =
        let c = r.copies o i in
        db_cell o i ∙ brought (marked to_db o i) (kept new Db (header_at one o) i) (kept old Db (header_at one o) i) (cell_at app o i) (cell_at db o i) (cell_at one o i) (newly Db to_db ndb o i e) q (λ f. c.app_kept (other_keeps old Db k (header_at one o) i f)) c.db_kept
    db_kept o i q (inr e) = both_none (cell_at new_db o i) (cell_at one o i) (db_there o i) e

    -- DB's copy still has what the old plan kept there
    old_db : (o i : ℕ) → kept old Db (header_at one o) i ≡ true → is_some (cell_at one o i) ≡ true → cell_at new_db o i ≡ cell_at one o i
    old_db o i q e =
        let c = r.copies o i in
        db_cell o i ∙ ap (λ b. cond b (cell_at app o i) (cell_at db o i)) (newly Db to_db ndb o i e ∙ (λ j. kept new Db (header_at one o) i && not (q j)) ∙ and_false (kept new Db (header_at one o) i)) ∙ c.db_kept q
      where
        and_false : (b : Bool) → (b && false) ≡ false
        and_false true = refl
        and_false false = refl

    app_kept : (o i : ℕ) → kept new App (header_at one o) i ≡ true → (is_some (cell_at one o i) ≡ true) ⊎ (is_some (cell_at one o i) ≡ false) → cell_at new_app o i ≡ cell_at one o i
    app_kept o i q (inl e) =
        let c = r.copies o i in
        app_cell o i ∙ brought (marked to_app o i) (kept new App (header_at one o) i) (kept old App (header_at one o) i) (cell_at new_db o i) (cell_at app o i) (cell_at one o i) (newly App to_app napp o i e) q (λ f. old_db o i (other_keeps old App k (header_at one o) i f) e) c.app_kept
    app_kept o i q (inr e) =
        let c = r.copies o i in
        both_none (cell_at new_app o i) (cell_at one o i) (ap is_some (app_cell o i) ∙ there_both (marked to_app o i) (cell_at new_db o i) (cell_at app o i) (cell_at one o i) (db_there o i) c.app_there) e
