-- The load after a flip.
use Rattle.std.proofs.Common.{◌≡◌, ◌≤◌, ◌<◌, ℕ, zero, suc, ◌+◌, nat_eq, Bool, true, false, not, List, [], ◌∷◌, length, unwrap_or, slice_get, if◌then◌else◌, ◌&&◌, refl, sym, ap, ◌∙◌, arith}
use Rattle.std.proofs.lemmas.Bool.{eqb-true, eq-eqb}
use Rattle.px_code.specs.declared.side.Side.{Side}
use Rattle.px_code.specs.declared.side.Side.TheVariants.{App, Db}
use Rattle.px_code.specs.Places.{other, numbered, side_of}
use Rattle.px_graph.specs.declared.graph.Graph.{Graph}
use Rattle.px_graph.specs.Loads.{is_db}
use Rattle.px_choose.specs.Placements.{is_free, flipped, Pins}
use Rattle.px_choose.specs.Sums.{free_load_at, free_load_from, free_load}
use Rattle.px_choose.specs.Gains.{turned}
use Rattle.px_choose.proofs.Laws.{IsFlip}
use Rattle.px_choose.proofs.Both.{ne_eqb}
use Rattle.px_choose.proofs.Turning.{free_above, turned_flip, flipped_free}

abbrev pub db_part : List Side → ℕ → ℕ → ℕ
db_part p n c = if is_db (side_of p n) then c else 0

abbrev pub count_at : ℕ → List ℕ → ℕ → ℕ
count_at m [] n = 0
count_at m (c ∷ cs) n = if nat_eq m n then c else count_at (m + 1) cs n

part_zero : (p : List Side) (n : ℕ) → db_part p n 0 ≡ 0
part_zero p n = by (is_db (side_of p n))
  where
    by : (b : Bool) → ◌≡◌ {A = ℕ} (if b then 0 else 0) 0
    by true = refl
    by false = refl

module _ (pins : Pins) (n : ℕ) (p q : List Side) (F : IsFlip n p q) where
  load_same : (m c : ℕ) → nat_eq m n ≡ false → free_load_at pins q m c ≡ free_load_at pins p m c
  load_same m c h = ap (λ (s : Side). if is_free pins m && is_db s then c else 0) (F.off m h)

  load_past : (m : ℕ) (cs : List ℕ) → n < m → free_load_from m cs pins q ≡ free_load_from m cs pins p
  load_past m [] h = refl
  load_past m (c ∷ cs) h =
      let a = load_same m c (ne_eqb m n (λ e. absurd (omega (arith, e, h)))) in
      let b = load_past (m + 1) cs (omega (arith, h)) in
      omega (arith, a, b)

  load_free : (r : List Side) (m c : ℕ) → is_free pins n ≡ true → m ≡ n → free_load_at pins r m c ≡ db_part r n c
  load_free r m c f e = ap (λ j. free_load_at pins r j c) e ∙ ap (λ (b : Bool). if b && is_db (side_of r n) then c else 0) f

  load_by : (m c : ℕ) (cs : List ℕ) (b : Bool) → nat_eq m n ≡ b → is_free pins n ≡ true → (b ≡ false → free_load_from (m + 1) cs pins q + db_part p n (count_at (m + 1) cs n) ≡ free_load_from (m + 1) cs pins p + db_part q n (count_at (m + 1) cs n)) → free_load_at pins q m c + free_load_from (m + 1) cs pins q + db_part p n (if b then c else count_at (m + 1) cs n) ≡ free_load_at pins p m c + free_load_from (m + 1) cs pins p + db_part q n (if b then c else count_at (m + 1) cs n)
  load_by m c cs true e f h =
      let same : m ≡ n = eqb-true m n e in
      let x = load_free q m c f same in
      let y = load_free p m c f same in
      let z = load_past (m + 1) cs (omega (arith, same)) in
      omega (arith, x, y, z)
  load_by m c cs false e f h = let a = load_same m c e in let b = h refl in omega (arith, a, b)

  load_flip : (m : ℕ) (cs : List ℕ) → is_free pins n ≡ true → free_load_from m cs pins q + db_part p n (count_at m cs n) ≡ free_load_from m cs pins p + db_part q n (count_at m cs n)
  load_flip m [] f = let a = part_zero p n in let b = part_zero q n in omega (arith, a, b)
  load_flip m (c ∷ cs) f = load_by m c cs (nat_eq m n) refl f (λ e. load_flip (m + 1) cs f)

count_is : (m k : ℕ) (cs : List ℕ) → count_at m cs (m + k) ≡ unwrap_or (slice_get cs k) 0
count_is m k [] = refl
count_is m zero (c ∷ cs) = ap (λ (b : Bool). if b then c else count_at (m + 1) cs (m + 0)) (eq-eqb m (m + 0) (omega arith))
count_is m (suc k) (c ∷ cs) =
    let e : m + suc k ≡ m + 1 + k = omega arith in
    ap (λ (b : Bool). if b then c else count_at (m + 1) cs (m + suc k)) (ne_eqb m (m + suc k) (λ t. absurd (omega (arith, t)))) ∙ ap (λ j. count_at (m + 1) cs j) e ∙ count_is (m + 1) k cs

count_one : (n : ℕ) (cs : List ℕ) → 0 < n → count_at 1 cs n ≡ unwrap_or (numbered cs n) 0
count_one zero cs h = absurd (omega arith)
count_one (suc k) cs h = let e : suc k ≡ 1 + k = omega arith in ap (λ j. count_at 1 cs j) e ∙ count_is 1 k cs

other_db : (s : Side) → is_db (other s) ≡ not (is_db s)
other_db App = refl
other_db Db = refl

-- the load after the flip of a free node
pub flip_load : (G : Graph) (pins : Pins) (n c : ℕ) (p : List Side) (b : Bool) → is_free pins n ≡ true → n ≤ length p → c ≡ unwrap_or (numbered G.counts n) 0 → is_db (side_of p n) ≡ b → free_load G pins (flipped pins n p) + (if b then c else 0) ≡ free_load G pins p + (if b then 0 else c)
flip_load G pins n c p b f k e d =
    let up : 0 < n = free_above pins n f in
    let F = turned_flip n p up k in
    let x : count_at 1 G.counts n ≡ c = count_one n G.counts up ∙ sym e in
    let y = load_flip pins n p (turned n p) F 1 G.counts f in
    let before : db_part p n (count_at 1 G.counts n) ≡ (if b then c else 0) = ap (λ j. db_part p n j) x ∙ ap (λ (t : Bool). if t then c else 0) d in
    let t : is_db (side_of (turned n p) n) ≡ not b = ap is_db F.here ∙ other_db (side_of p n) ∙ ap not d in
    let after : db_part (turned n p) n (count_at 1 G.counts n) ≡ (if b then 0 else c) = ap (λ j. db_part (turned n p) n j) x ∙ ap (λ (t : Bool). if t then c else 0) t ∙ swap b c in
    let z : free_load G pins (flipped pins n p) ≡ free_load G pins (turned n p) = ap (λ (r : List Side). free_load G pins r) (flipped_free pins n p f) in
    ap (λ j. j + (if b then c else 0)) z ∙ ap (λ j. free_load G pins (turned n p) + j) (sym before) ∙ y ∙ ap (λ j. free_load G pins p + j) after
  where
    swap : (b : Bool) (c : ℕ) → (if not b then c else 0) ≡ (if b then 0 else c)
    swap true c = refl
    swap false c = refl
