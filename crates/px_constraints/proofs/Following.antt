-- What following a fact keeps, and that nothing is left to follow at the end.
use Rattle.std.proofs.Common.{◌≡◌, ◌≤◌, ◌<◌, ℕ, zero, suc, List, [], ◌∷◌, ◌++◌, length, Option, Some, None, slice_get, slice_set, unwrap_or, refl, sym, ap, ◌∙◌, ◌⊎◌, inl, inr, ⊎_elim, subst, arith}
use Rattle.std.proofs.lemmas.Option.{same_Some}
use Rattle.px_constraints.specs.declared.facts.Fact.{Fact}
use Rattle.px_constraints.specs.declared.system.Look.{Look}
use Rattle.px_constraints.specs.Systems.{System}
use Rattle.px_constraints.specs.System.{At, at_list, cell_of, copies_at, loads_at, stores_at, Derives, start, copy, load, store, AreThere}
use Rattle.px_constraints.specs.Search.{fact, items_at, SearchOf, with_edge_at, joined, joined_from, joined_to, loaded, stored, along, followed}
use Rattle.px_constraints.proofs.Elements.{in_end, still_in, in_last, in_none, set_cases, set_here, length-slice_set}
use Rattle.px_constraints.proofs.Adding.{Has, measure, Adds, each_adds, each_has, all_adds, all_has}

-- ---- edges

abbrev pub Edge : SearchOf → ℕ → ℕ → Type 0
Edge S a b = At (at_list S.edges a) b

list_of : {A : Type 0} → Option (List A) → List A
list_of o = unwrap_or o []

edge_cases : (edges : List (List ℕ)) (a b : ℕ) (o : Option (List ℕ)) → slice_get edges a ≡ o → (x y : ℕ) → At (at_list (with_edge_at o a b edges) x) y → At (at_list edges x) y ⊎ ((x ≡ a) × (y ≡ b))
edge_cases edges a b None h x y p = inl p
edge_cases edges a b (Some ts) h x y p = ⊎_elim
    (λ (q : (x ≡ a) × (slice_get (slice_set edges a (ts ++ b ∷ [])) x ≡ Some (ts ++ b ∷ []))). ⊎_elim
    (λ (w : At ts y). inl (subst (λ (xs : List ℕ). At xs y) (sym (ap (λ j. at_list edges j) q.0 ∙ ap (λ (z : Option (List ℕ)). unwrap_or z []) h)) w))
    (λ (w : b ≡ y). inr (q.0, sym w))
    (in_end ts b y (subst (λ (xs : List ℕ). At xs y) (ap (λ (z : Option (List ℕ)). unwrap_or z []) q.1) p)))
    (λ (q : slice_get (slice_set edges a (ts ++ b ∷ [])) x ≡ slice_get edges x). inl (subst (λ (xs : List ℕ). At xs y) (ap (λ (z : Option (List ℕ)). unwrap_or z []) q) p))
    (set_cases edges a ts (ts ++ b ∷ []) h x)

edge_kept : (edges : List (List ℕ)) (a b : ℕ) (o : Option (List ℕ)) → slice_get edges a ≡ o → (x y : ℕ) → At (at_list edges x) y → At (at_list (with_edge_at o a b edges) x) y
edge_kept edges a b None h x y p = p
edge_kept edges a b (Some ts) h x y p = ⊎_elim
    (λ (q : (x ≡ a) × (slice_get (slice_set edges a (ts ++ b ∷ [])) x ≡ Some (ts ++ b ∷ []))). subst (λ (xs : List ℕ). At xs y) (sym (ap (λ (z : Option (List ℕ)). unwrap_or z []) q.1)) (still_in ts (b ∷ []) y (subst (λ (xs : List ℕ). At xs y) (ap (λ j. at_list edges j) q.0 ∙ ap (λ (z : Option (List ℕ)). unwrap_or z []) h) p)))
    (λ (q : slice_get (slice_set edges a (ts ++ b ∷ [])) x ≡ slice_get edges x). subst (λ (xs : List ℕ). At xs y) (sym (ap (λ (z : Option (List ℕ)). unwrap_or z []) q)) p)
    (set_cases edges a ts (ts ++ b ∷ []) h x)

edge_there : (edges : List (List ℕ)) (a b : ℕ) (o : Option (List ℕ)) → a < length edges → slice_get edges a ≡ o → At (at_list (with_edge_at o a b edges) a) b
edge_there edges a b None below h = absurd (none_there edges a below h)
  where
    none_there : (edges : List (List ℕ)) (x : ℕ) → x < length edges → slice_get edges x ≡ None → ⊥
    none_there [] x below h = omega arith
    none_there (v ∷ edges) zero below h = cc
    none_there (v ∷ edges) (suc x) below h = none_there edges x (omega arith) h
edge_there edges a b (Some ts) below h = subst (λ (xs : List ℕ). At xs b) (sym (ap (λ (z : Option (List ℕ)). unwrap_or z []) (set_here edges a ts (ts ++ b ∷ []) h))) (in_last ts b)

edge_size : (edges : List (List ℕ)) (a b : ℕ) (o : Option (List ℕ)) → length (with_edge_at o a b edges) ≡ length edges
edge_size edges a b None = refl
edge_size edges a b (Some ts) = length-slice_set edges a (ts ++ b ∷ [])

-- ---- what is kept

module _ (C : System) where
  abbrev vars : ℕ
  vars = length C.copies

  abbrev pub sites : ℕ
  sites = length C.cells

  -- all that follows from a fact at once was drawn, or will be with other facts
  pub record Done (S : SearchOf) (x s : ℕ) : Type 0 where
    pub along : (y : ℕ) → Edge S x y → Has S.facts y s
    pub loads : (l : Look) (c : ℕ) → At (loads_at C x) l → cell_of C.cells s l.part ≡ Some c → Edge S c l.slot
    pub stores : (l : Look) (c : ℕ) → At (stores_at C x) l → cell_of C.cells s l.part ≡ Some c → Edge S l.slot c

  pub record Kept (but : ℕ → ℕ → Type 0) (S : SearchOf) : Type 0 where
    pub sound : (x s : ℕ) → Has S.facts x s → Derives C x s
    pub flows : (a b : ℕ) → Edge S a b → (t : ℕ) → Derives C a t → Derives C b t
    pub into : (a b : ℕ) → Edge S a b → b < vars
    pub copies : (x y : ℕ) → At (copies_at C x) y → Edge S x y
    pub starts : (f : Fact) → At C.starts f → Has S.facts f.var f.site
    pub waits : (f : Fact) → At S.facts.work f → Has S.facts f.var f.site
    pub sets : length S.facts.sets ≡ vars
    pub edges : length S.edges ≡ vars
    pub closed : (x s : ℕ) → Has S.facts x s → At S.facts.work (fact x s) ⊎ (Done S x s ⊎ but x s)

  -- a later state of the search
  record Later (but : ℕ → ℕ → Type 0) (S T : SearchOf) : Type 0 where
    kept : Kept but T
    edges : (x y : ℕ) → Edge S x y → Edge T x y
    has : (x s : ℕ) → Has S.facts x s → Has T.facts x s
    measure : measure sites T.facts ≤ measure sites S.facts

  later_none : (but : ℕ → ℕ → Type 0) (S : SearchOf) → Kept but S → Later but S S
  later_none but S k = record { kept = k; edges = λ x y h. h; has = λ x s h. h; measure = omega arith }

  later_then : (but : ℕ → ℕ → Type 0) (S T U : SearchOf) → Later but S T → Later but T U → Later but S U
  later_then but S T U a b = record { kept = b.kept; edges = λ x y h. b.edges x y (a.edges x y h); has = λ x s h. b.has x s (a.has x s h); measure = let p = a.measure in let q = b.measure in omega arith }

  module _ (there : AreThere C) where
    -- sites come from the facts that the search begins with
    pub below : (x s : ℕ) → Derives C x s → s < sites
    below x s (start {f = f} h) = (there.starts f h).1
    below x s (copy {x = y} h d) = below y s d
    below x s (load {c = c} h d e q) = below c s q
    below x s (store {l = l} h d e q) = below l.slot s q

    module _ (but : ℕ → ℕ → Type 0) where
      joined_later : (a b : ℕ) (S : SearchOf) → Kept but S → ((t : ℕ) → Derives C a t → Derives C b t) → a < vars → b < vars → Later but S (joined a b S) × Edge (joined a b S) a b
      joined_later a b S k flow from to =
          let items : List ℕ = items_at S.facts.sets a in
          let T : SearchOf = joined a b S in
          let may : (t : ℕ) → At items t → Derives C b t × (t < sites) = λ t h. let d = k.sound a t h in (flow t d, below a t d) in
          let room : b < length S.facts.sets = let e = k.sets in omega (arith, e) in
          let adds : Adds (Derives C) sites S.facts T.facts = all_adds (Derives C) sites S.facts b items may in
          let old : (x y : ℕ) → Edge S x y → Edge T x y = edge_kept S.edges a b (slice_get S.edges a) refl in
          let cases : (x y : ℕ) → Edge T x y → Edge S x y ⊎ ((x ≡ a) × (y ≡ b)) = edge_cases S.edges a b (slice_get S.edges a) refl in (
            record {
              kept = record {
                sound = λ x s h. ⊎_elim (λ (u : Has S.facts x s). k.sound x s u) (λ (u : Derives C x s × At T.facts.work (fact x s)). u.0) (adds.new x s h);
                flows = λ x y h t d. ⊎_elim (λ (u : Edge S x y). k.flows x y u t d) (λ (u : (x ≡ a) × (y ≡ b)). subst (λ j. Derives C j t) (sym u.1) (flow t (subst (λ j. Derives C j t) u.0 d))) (cases x y h);
                into = λ x y h. ⊎_elim (λ (u : Edge S x y). k.into x y u) (λ (u : (x ≡ a) × (y ≡ b)). subst (λ j. j < vars) (sym u.1) to) (cases x y h);
                copies = λ x y h. old x y (k.copies x y h);
                starts = λ f h. adds.has f.var f.site (k.starts f h);
                waits = λ f h. ⊎_elim (λ (u : At S.facts.work f). adds.has f.var f.site (k.waits f u)) (λ (u : Has T.facts f.var f.site). u) (adds.waits f h);
                sets = adds.size ∙ k.sets;
                edges = edge_size S.edges a b (slice_get S.edges a) ∙ k.edges;
                closed = λ x s h. ⊎_elim
                    (λ (u : Has S.facts x s). ⊎_elim
                    (λ (w : At S.facts.work (fact x s)). inl (adds.work (fact x s) w))
                    (λ (w : Done S x s ⊎ but x s). ⊎_elim
                    (λ (d : Done S x s). inr (inl (record {
                      along = λ y e. ⊎_elim
                          (λ (q : Edge S x y). adds.has y s (d.along y q))
                          (λ (q : (x ≡ a) × (y ≡ b)). subst (λ j. Has T.facts j s) (sym q.1) (all_has (Derives C) sites S.facts b items s may room (subst (λ j. Has S.facts j s) q.0 u)))
                          (cases x y e);
                      loads = λ l c p e. old c l.slot (d.loads l c p e);
                      stores = λ l c p e. old l.slot c (d.stores l c p e);
                    })))
                    (λ (q : but x s). inr (inr q))
                    w)
                    (k.closed x s u))
                    (λ (u : Derives C x s × At T.facts.work (fact x s)). inl u.1)
                    (adds.new x s h);
              };
              edges = old;
              has = adds.has;
              measure = adds.measure;
            },
            edge_there S.edges a b (slice_get S.edges a) (let e = k.edges in omega (arith, e)) refl,
          )

      -- all loads from a variable that has a site, and all stores
      abbrev Loaded : ℕ → List Look → SearchOf → SearchOf → Type 0
      Loaded s ls S T = Later but S T × ((m : Look) (c : ℕ) → At ls m → cell_of C.cells s m.part ≡ Some c → Edge (T) c m.slot)

      loaded_one : (x s : ℕ) (l : Look) (ls : List Look) (S : SearchOf) (o : Option ℕ) → cell_of C.cells s l.part ≡ o → Kept but S → Derives C x s → At (loads_at C x) l → ((T : SearchOf) → Kept but T → Loaded s ls T (loaded C.cells ls s T)) → Loaded s (l ∷ ls) S (loaded C.cells ls s (joined_from o l.slot S))
      loaded_one x s l ls S None e k d all rest = ((rest S k).0, in_rest)
        where
          in_rest : (m : Look) (c : ℕ) → At (l ∷ ls) m → cell_of C.cells s m.part ≡ Some c → Edge (loaded C.cells ls s S) c m.slot
          in_rest m c (zero, h) q = let p : cell_of C.cells s l.part ≡ Some c = subst (λ (n : Look). cell_of C.cells s n.part ≡ Some c) (sym (same_Some l m h)) q in let z : ◌≡◌ {A = Option ℕ} None (Some c) = sym e ∙ p in cc
          in_rest m c (suc i, h) q = (rest S k).1 m c (i, h) q
      loaded_one x s l ls S (Some c) e k d all rest =
          let j = joined_later c l.slot S k (λ t q. load all d e q) (there.cells s l.part c e) (there.loads x l all) in
          let r = rest (joined c l.slot S) j.0.kept in
          (later_then but S (joined c l.slot S) (loaded C.cells ls s (joined c l.slot S)) j.0 r.0, in_rest)
        where
          in_rest : (m : Look) (b : ℕ) → At (l ∷ ls) m → cell_of C.cells s m.part ≡ Some b → Edge (loaded C.cells ls s (joined c l.slot S)) b m.slot
          in_rest m b (zero, h) q =
              let U : SearchOf = loaded C.cells ls s (joined c l.slot S) in
              let same : l ≡ m = same_Some l m h in
              let p : cell_of C.cells s l.part ≡ Some b = subst (λ (n : Look). cell_of C.cells s n.part ≡ Some b) (sym same) q in
              let is : c ≡ b = same_Some c b (sym e ∙ p) in
              let j = joined_later c l.slot S k (λ t q. load all d e q) (there.cells s l.part c e) (there.loads x l all) in
              let r = rest (joined c l.slot S) j.0.kept in
              subst (λ n. Edge U n m.slot) is (subst (λ (n : Look). Edge U c n.slot) same (r.0.edges c l.slot j.1))
          in_rest m b (suc i, h) q =
              let j = joined_later c l.slot S k (λ t q. load all d e q) (there.cells s l.part c e) (there.loads x l all) in
              (rest (joined c l.slot S) j.0.kept).1 m b (i, h) q

      loaded_later : (x s : ℕ) (ls : List Look) (S : SearchOf) → Kept but S → Derives C x s → ((l : Look) → At ls l → At (loads_at C x) l) → Loaded s ls S (loaded C.cells ls s S)
      loaded_later x s [] S k d all = (later_none but S k, λ l c h e. absurd (in_none l h))
      loaded_later x s (l ∷ ls) S k d all = loaded_one x s l ls S (cell_of C.cells s l.part) refl k d (all l (0, refl)) (λ T t. loaded_later x s ls T t d (λ m h. all m (suc h.0, h.1)))

      abbrev Stored : ℕ → List Look → SearchOf → SearchOf → Type 0
      Stored s ls S T = Later but S T × ((m : Look) (c : ℕ) → At ls m → cell_of C.cells s m.part ≡ Some c → Edge (T) m.slot c)

      stored_one : (x s : ℕ) (l : Look) (ls : List Look) (S : SearchOf) (o : Option ℕ) → cell_of C.cells s l.part ≡ o → Kept but S → Derives C x s → At (stores_at C x) l → ((T : SearchOf) → Kept but T → Stored s ls T (stored C.cells ls s T)) → Stored s (l ∷ ls) S (stored C.cells ls s (joined_to l.slot o S))
      stored_one x s l ls S None e k d all rest = ((rest S k).0, in_rest)
        where
          in_rest : (m : Look) (c : ℕ) → At (l ∷ ls) m → cell_of C.cells s m.part ≡ Some c → Edge (stored C.cells ls s S) m.slot c
          in_rest m c (zero, h) q = let p : cell_of C.cells s l.part ≡ Some c = subst (λ (n : Look). cell_of C.cells s n.part ≡ Some c) (sym (same_Some l m h)) q in let z : ◌≡◌ {A = Option ℕ} None (Some c) = sym e ∙ p in cc
          in_rest m c (suc i, h) q = (rest S k).1 m c (i, h) q
      stored_one x s l ls S (Some c) e k d all rest =
          let j = joined_later l.slot c S k (λ t q. store all d e q) (there.stores x l all) (there.cells s l.part c e) in
          let r = rest (joined l.slot c S) j.0.kept in
          (later_then but S (joined l.slot c S) (stored C.cells ls s (joined l.slot c S)) j.0 r.0, in_rest)
        where
          in_rest : (m : Look) (b : ℕ) → At (l ∷ ls) m → cell_of C.cells s m.part ≡ Some b → Edge (stored C.cells ls s (joined l.slot c S)) m.slot b
          in_rest m b (zero, h) q =
              let U : SearchOf = stored C.cells ls s (joined l.slot c S) in
              let same : l ≡ m = same_Some l m h in
              let p : cell_of C.cells s l.part ≡ Some b = subst (λ (n : Look). cell_of C.cells s n.part ≡ Some b) (sym same) q in
              let is : c ≡ b = same_Some c b (sym e ∙ p) in
              let j = joined_later l.slot c S k (λ t q. store all d e q) (there.stores x l all) (there.cells s l.part c e) in
              let r = rest (joined l.slot c S) j.0.kept in
              subst (λ n. Edge U m.slot n) is (subst (λ (n : Look). Edge U n.slot c) same (r.0.edges l.slot c j.1))
          in_rest m b (suc i, h) q =
              let j = joined_later l.slot c S k (λ t q. store all d e q) (there.stores x l all) (there.cells s l.part c e) in
              (rest (joined l.slot c S) j.0.kept).1 m b (i, h) q

      stored_later : (x s : ℕ) (ls : List Look) (S : SearchOf) → Kept but S → Derives C x s → ((l : Look) → At ls l → At (stores_at C x) l) → Stored s ls S (stored C.cells ls s S)
      stored_later x s [] S k d all = (later_none but S k, λ l c h e. absurd (in_none l h))
      stored_later x s (l ∷ ls) S k d all = stored_one x s l ls S (cell_of C.cells s l.part) refl k d (all l (0, refl)) (λ T t. stored_later x s ls T t d (λ m h. all m (suc h.0, h.1)))

    abbrev pub Nothing : ℕ → ℕ → Type 0
    Nothing x s = ⊥

    abbrev pub But : Fact → ℕ → ℕ → Type 0
    But f x s = (x ≡ f.var) × (s ≡ f.site)

    -- a fact is followed
    pub followed_kept : (f : Fact) (S : SearchOf) → Kept (But f) S → Has S.facts f.var f.site → Kept Nothing (followed C f S) × (measure sites (followed C f S).facts ≤ measure sites S.facts)
    followed_kept f S k h =
        let d : Derives C f.var f.site = k.sound f.var f.site h in
        let A : SearchOf = loaded C.cells (loads_at C f.var) f.site S in
        let B : SearchOf = stored C.cells (stores_at C f.var) f.site A in
        let T : SearchOf = along f.var f.site B in
        let a = loaded_later (But f) f.var f.site (loads_at C f.var) S k d (λ l p. p) in
        let b = stored_later (But f) f.var f.site (stores_at C f.var) A a.0.kept d (λ l p. p) in
        let q : Kept (But f) B = b.0.kept in
        let targets : List ℕ = at_list B.edges f.var in
        let may : (y : ℕ) → At targets y → Derives C y f.site = λ y p. q.flows f.var y p f.site d in
        let small : f.site < sites = below f.var f.site d in
        let adds : Adds (Derives C) sites B.facts T.facts = each_adds (Derives C) sites B.facts targets f.site may small in (
          record {
            sound = λ x s p. ⊎_elim (λ (u : Has B.facts x s). q.sound x s u) (λ (u : Derives C x s × At T.facts.work (fact x s)). u.0) (adds.new x s p);
            flows = q.flows;
            into = q.into;
            copies = q.copies;
            starts = λ g p. adds.has g.var g.site (q.starts g p);
            waits = λ g p. ⊎_elim (λ (u : At B.facts.work g). adds.has g.var g.site (q.waits g u)) (λ (u : Has T.facts g.var g.site). u) (adds.waits g p);
            sets = adds.size ∙ q.sets;
            edges = q.edges;
            closed = λ x s p. ⊎_elim
                (λ (u : Has B.facts x s). ⊎_elim
                (λ (w : At B.facts.work (fact x s)). inl (adds.work (fact x s) w))
                (λ (w : Done B x s ⊎ But f x s). ⊎_elim
                (λ (e : Done B x s). inr (inl (record { along = λ y g. adds.has y s (e.along y g); loads = e.loads; stores = e.stores })))
                (λ (e : But f x s). inr (inl (record {
                  along = λ y g. subst (λ j. Has T.facts y j) (sym e.1) (each_has (Derives C) sites B.facts targets f.site y may small (λ z r. let i = q.into f.var z r in let n = q.sets in omega (arith, i, n)) (subst (λ j. Edge B j y) e.0 g));
                  loads = λ l c g z. b.0.edges c l.slot (a.1 l c (subst (λ j. At (loads_at C j) l) e.0 g) (subst (λ j. cell_of C.cells j l.part ≡ Some c) e.1 z));
                  stores = λ l c g z. b.1 l c (subst (λ j. At (stores_at C j) l) e.0 g) (subst (λ j. cell_of C.cells j l.part ≡ Some c) e.1 z);
                })))
                w)
                (q.closed x s u))
                (λ (u : Derives C x s × At T.facts.work (fact x s)). inl u.1)
                (adds.new x s p);
          },
          let m = a.0.measure in let n = b.0.measure in let r = adds.measure in omega (arith, m, n, r),
        )

    -- a fact is taken from those to follow
    pub taken_kept : (f : Fact) (rest : List Fact) (S : SearchOf) → Kept Nothing S → S.facts.work ≡ rest ++ f ∷ [] → Kept (But f) (record S { facts = record { sets = S.facts.sets; work = rest } }) × Has S.facts f.var f.site
    taken_kept f rest S k e = (
      record {
        sound = k.sound;
        flows = k.flows;
        into = k.into;
        copies = k.copies;
        starts = k.starts;
        waits = λ g p. k.waits g (subst (λ (xs : List Fact). At xs g) (sym e) (still_in rest (f ∷ []) g p));
        sets = k.sets;
        edges = k.edges;
        closed = λ x s p. ⊎_elim
            (λ (w : At S.facts.work (fact x s)). ⊎_elim inl
            (λ (q : f ≡ fact x s). inr (inr (ap (λ (g : Fact). g.var) (sym q), ap (λ (g : Fact). g.site) (sym q))))
            (in_end rest f (fact x s) (subst (λ (xs : List Fact). At xs (fact x s)) e w)))
            (λ (w : Done S x s ⊎ ⊥). ⊎_elim (λ (d : Done S x s). inr (inl (record { along = d.along; loads = d.loads; stores = d.stores }))) (λ (q : ⊥). absurd q) w)
            (k.closed x s p);
      },
      k.waits f (subst (λ (xs : List Fact). At xs f) (sym e) (in_last rest f)),
    )

    -- ---- the end

    module _ (S : SearchOf) (k : Kept Nothing S) (empty : S.facts.work ≡ []) where
      done : (x s : ℕ) → Has S.facts x s → Done S x s
      done x s h = ⊎_elim
          (λ (w : At S.facts.work (fact x s)). absurd (in_none (fact x s) (subst (λ (xs : List Fact). At xs (fact x s)) empty w)))
          (λ (w : Done S x s ⊎ ⊥). ⊎_elim (λ (d : Done S x s). d) (λ (q : ⊥). absurd q) w)
          (k.closed x s h)

      pub complete : (x s : ℕ) → Derives C x s → Has S.facts x s
      complete x s (start {f = f} h) = k.starts f h
      complete x s (copy {x = y} h d) = (done y s (complete y s d)).along x (k.copies y x h)
      complete x s (load {x = y} {s = r} {c = c} {l = l} h d e q) = (done c s (complete c s q)).along l.slot ((done y r (complete y r d)).loads l c h e)
      complete x s (store {x = y} {s = r} {c = c} {l = l} h d e q) = (done l.slot s (complete l.slot s q)).along c ((done y r (complete y r d)).stores l c h e)
