-- Which nodes a method has, and that they are as many as its numbers are given in it.
use Rattle.std.proofs.Common.{◌≡◌, ℕ, zero, suc, ◌+◌, ◌<◌, ◌≤◌, nat_eq, Bool, true, false, if◌then◌else◌, List, [], ◌∷◌, ◌++◌, length, append_assoc, append-nil, Option, Some, None, slice_get, refl, sym, ap, ◌∙◌, subst, arith}
use Rattle.std.proofs.lemmas.Bool.{eq-eqb}
use Rattle.std.proofs.lemmas.Bool.Decides.{nat_tests}
use Rattle.px_tree.specs.declared.Method.{Method}
use Rattle.px_facts.specs.declared.checked.MethodFact.{MethodFact}
use Rattle.px_facts.specs.declared.checked.Checked.{Checked}
use Rattle.px_normal.specs.declared.node.Node.{Node}
use Rattle.px_normal.specs.declared.node.NodeKind.TheVariants.{Normal}
use Rattle.px_normal.specs.declared.node.Counter.{Counter}
use Rattle.px_normal.specs.declared.node.Counter.TheVariants.{Begun, Completed, Entered, ReachedEnd}
use Rattle.px_normal.specs.declared.method.Method.{Method as CodeMethod}
use Rattle.px_normal.specs.First.{numbered}
use Rattle.px_lowering.specs.declared.draft.Draft.{Draft}
use Rattle.px_lowering.specs.Emit.{node_at}
use Rattle.px_lowering.specs.Statements.{completes, low_stmt}
use Rattle.px_lowering.specs.Programs.{method_node, begun, ended, lowered_body, method_of, lowered_methods}
use Rattle.px_counts.specs.Marks as mark
use Rattle.px_counted.specs.Numbers.{given_statement, given_methods}
use Rattle.px_counted.proofs.Counts.{hits, marks}
use Rattle.px_counted.proofs.Pieces.{numbered_front, numbered_behind, from_node, hit_at, one_hit, from_one, IsKnown, known_front, Grows, hit_counter}
use Rattle.px_counted.proofs.GivenStatements.{does_give}

module _ (Q W : Type 0) (k : ℕ) (counter : Counter) where
  abbrev pub ends : ℕ → ℕ
  ends number = marks Q W k counter (mark.ReachedEnd number)

  abbrev pub given_in : ℕ → Method → ℕ
  given_in number m = does_give counter m.body + ends number

  abbrev pub given_from : ℕ → List Method → ℕ
  given_from number [] = 0
  given_from number (m ∷ ms) = given_in number m + given_from (number + 1) ms

  abbrev from : List Node → ℕ
  from nodes = from_node Q W k counter (length nodes)

  abbrev hit : ℕ → ℕ
  hit node = hits Q W k counter node

  -- where the node is among these, it is that of a statement
  abbrev pub IsNormal : List Node → Type 0
  IsNormal nodes = (node : Node) → numbered nodes k ≡ Some node → node.kind ≡ Normal

  pub normal_front : (xs ys zs : List Node) → zs ≡ xs ++ ys → IsNormal zs → IsNormal xs
  normal_front xs ys zs e h node at = h node (subst (λ (l : List Node). numbered l k ≡ Some node) (sym e) (numbered_front xs ys k node at))

  none_or : (h : ℕ) → (1 ≤ h → ⊥) → h ≡ 0
  none_or zero f = refl
  none_or (suc h) f = absurd (f (omega (arith)))

  -- a node of another kind isn't the node
  pub other_kind : (xs : List Node) (x : Node) → (x.kind ≡ Normal → ⊥) → IsNormal (xs ++ x ∷ []) → hit (length xs + 1) ≡ 0
  other_kind xs x other h = none_or (hit (length xs + 1)) (λ l. other (h x (numbered_behind xs k x (hit_at Q W k counter (length xs + 1) l))))

  pub same_end : (number : ℕ) → counter ≡ ReachedEnd number → 1 ≤ ends number
  same_end number e = subst (λ (c : Counter). 1 ≤ marks Q W k c (mark.ReachedEnd number)) (sym e) (subst (λ (b : Bool). 1 ≤ (if b then 1 else 0)) (sym (eq-eqb number number refl)) (omega (arith)))

  module _ (P : Checked) where
    abbrev before : ℕ → Method → MethodFact → List Node → Draft
    before number m fact nodes = begun P number m fact nodes

    abbrev body : ℕ → Method → MethodFact → List Node → Draft
    body number m fact nodes = low_stmt P fact.result m.body (before number m fact nodes)

    abbrev whole : ℕ → Method → MethodFact → List Node → Draft
    whole number m fact nodes = lowered_body P number m fact nodes

    -- the body's nodes come behind that of the method
    abbrev pub BodyGrows : ℕ → Method → MethodFact → List Node → Type 0
    BodyGrows number m fact nodes = Grows Q W k counter (does_give counter m.body) (before number m fact nodes).nodes (body number m fact nodes).nodes

    -- what is known of a method whose nodes are among all
    pub record IsApart (number : ℕ) (m : Method) (fact : MethodFact) (nodes : List Node) : Type 0 where
      pub known : IsKnown Q W k counter (whole number m fact nodes).nodes
      pub first : hit (length nodes + 1) ≡ 0
      pub sum : from (whole number m fact nodes).nodes ≡ from nodes + given_in number m
      pub few : does_give counter m.body ≤ 1

    -- the nodes of a method grow by as many as are given, at most
    pub record MethodGrows (number : ℕ) (m : Method) (fact : MethodFact) (nodes : List Node) : Type 0 where
      pub more : List Node
      pub nodes_are : (whole number m fact nodes).nodes ≡ nodes ++ more
      pub first : IsNormal (whole number m fact nodes).nodes → hit (length nodes + 1) ≡ 0
      pub few : IsKnown Q W k counter (whole number m fact nodes).nodes → IsNormal (whole number m fact nodes).nodes → from (whole number m fact nodes).nodes ≤ from nodes + given_in number m

    not_method : (number : ℕ) (m : Method) → (method_node P number m).kind ≡ Normal → ⊥
    not_method number m e = cc e

    ended_grows : (number : ℕ) (m : Method) (nodes : List Node) (d0 d : Draft) (b : Bool) → d0.nodes ≡ nodes ++ method_node P number m ∷ [] → d.method ≡ number → Grows Q W k counter (does_give counter m.body) d0.nodes d.nodes
        → (more : List Node) × ((ended P m b d).nodes ≡ nodes ++ more) × (IsNormal (ended P m b d).nodes → hit (length nodes + 1) ≡ 0) × (IsKnown Q W k counter (ended P m b d).nodes → IsNormal (ended P m b d).nodes → from (ended P m b d).nodes ≤ from nodes + given_in number m)
    ended_grows number m nodes d0 d b e is grows = by b
      where
        one : Node
        one = method_node P number m

        all : d.nodes ≡ nodes ++ (one ∷ grows.more)
        all = grows.nodes_are ∙ ap (λ (l : List Node). l ++ grows.more) e ∙ append_assoc nodes (one ∷ []) grows.more

        apart : IsNormal d.nodes → hit (length nodes + 1) ≡ 0
        apart h = other_kind nodes one (not_method number m) (normal_front (nodes ++ one ∷ []) grows.more d.nodes (grows.nodes_are ∙ ap (λ (l : List Node). l ++ grows.more) e) h)

        most : IsKnown Q W k counter d.nodes → IsNormal d.nodes → from d.nodes ≤ from nodes + does_give counter m.body
        most known normal =
            let z = apart normal in
            let f = grows.few known in
            let s : from d0.nodes ≡ from nodes + hit (length nodes + 1) = ap from e ∙ from_one Q W k counter nodes one in
            omega (arith, z, f, s)

        by : (b : Bool) → (more : List Node) × ((ended P m b d).nodes ≡ nodes ++ more) × (IsNormal (ended P m b d).nodes → hit (length nodes + 1) ≡ 0) × (IsKnown Q W k counter (ended P m b d).nodes → IsNormal (ended P m b d).nodes → from (ended P m b d).nodes ≤ from nodes + given_in number m)
        by false = (one ∷ grows.more, all, apart, λ known normal. let z = most known normal in omega (arith, z))
        by true =
            let last = node_at P d.method m.name.token (ReachedEnd d.method) in
            let back = λ (normal : IsNormal (d.nodes ++ last ∷ [])). normal_front d.nodes (last ∷ []) (d.nodes ++ last ∷ []) refl normal in (
              (one ∷ grows.more) ++ last ∷ [],
              ap (λ (l : List Node). l ++ last ∷ []) all ∙ append_assoc nodes (one ∷ grows.more) (last ∷ []),
              (λ normal. apart (back normal)),
              (λ known normal.
                  let z = most (known_front Q W k counter d.nodes (last ∷ []) (d.nodes ++ last ∷ []) refl known) (back normal) in
                  let s = from_one Q W k counter d.nodes last in
                  let few = one_hit Q W k counter (length d.nodes + 1) in
                  let h = once (hit (length d.nodes + 1)) few (λ l. same_end number (hit_counter Q W k counter d.nodes last (ReachedEnd d.method) refl known l ∙ ap ReachedEnd is)) in
                  omega (arith, z, s, h)),
            )
          where
            once : (h : ℕ) → h ≤ 1 → (1 ≤ h → 1 ≤ ends number) → h ≤ ends number
            once zero l f = omega (arith)
            once (suc h) l f = let z = f (omega (arith)) in omega (arith, l, z)

    pub method_grows : (number : ℕ) (m : Method) (fact : MethodFact) (nodes : List Node) → (body number m fact nodes).method ≡ number → BodyGrows number m fact nodes → MethodGrows number m fact nodes
    method_grows number m fact nodes is grows =
        let z = ended_grows number m nodes (before number m fact nodes) (body number m fact nodes) (completes m.body) refl is grows in
        record { more = z.0; nodes_are = z.1; first = z.2; few = z.3 }

    -- ---- all methods

    -- a method of the code beside the source's
    pub data IsCounted (number : ℕ) : Option Method → Option MethodFact → Option CodeMethod → Type 0 where
      there : (m : Method) (fact : MethodFact) (nodes : List Node) → IsApart number m fact nodes → IsCounted number (Some m) (Some fact) (Some (method_of P m fact (length nodes) (lowered_body P number m fact nodes)))
      no_method : (fact : Option MethodFact) → IsCounted number None fact None
      no_fact : (m : Option Method) → IsCounted number m None None

    abbrev pub AllGrow : List Method → List MethodFact → Type 0
    AllGrow [] facts = Unit {0}
    AllGrow (m ∷ ms) [] = Unit {0}
    AllGrow (m ∷ ms) (fact ∷ facts) = ((number : ℕ) (nodes : List Node) → does_give counter m.body ≤ 1 → MethodGrows number m fact nodes) × AllGrow ms facts

    pub record MethodsGrow (number : ℕ) (ms : List Method) (facts : List MethodFact) (nodes : List Node) : Type 0 where
      pub more : List Node
      pub nodes_are : (lowered_methods P number ms facts nodes).nodes ≡ nodes ++ more
      pub few : IsKnown Q W k counter (lowered_methods P number ms facts nodes).nodes → IsNormal (lowered_methods P number ms facts nodes).nodes → from (lowered_methods P number ms facts nodes).nodes ≤ from nodes + given_from number ms

    pub methods_grow : (number : ℕ) (ms : List Method) (facts : List MethodFact) (nodes : List Node) → given_from number ms ≤ 1 → AllGrow ms facts → MethodsGrow number ms facts nodes
    methods_grow number [] facts nodes le h = record { more = []; nodes_are = sym (append-nil nodes); few = λ known normal. omega (arith) }
    methods_grow number (m ∷ ms) [] nodes le h = record { more = []; nodes_are = sym (append-nil nodes); few = λ known normal. omega (arith) }
    methods_grow number (m ∷ ms) (fact ∷ facts) nodes le h =
        let now = h.0 number nodes (omega (arith, le)) in
        let next = (whole number m fact nodes).nodes in
        let rest = methods_grow (number + 1) ms facts next (omega (arith, le)) h.1 in
        let all = (lowered_methods P (number + 1) ms facts next).nodes in
        record {
          more = now.more ++ rest.more;
          nodes_are = rest.nodes_are ∙ ap (λ (l : List Node). l ++ rest.more) now.nodes_are ∙ append_assoc nodes now.more rest.more;
          few = λ known normal.
              let a = now.few (known_front Q W k counter next rest.more all rest.nodes_are known) (normal_front next rest.more all rest.nodes_are normal) in
              let b = rest.few known normal in
              omega (arith, a, b);
        }

    pub method_at : (number : ℕ) (ms : List Method) (facts : List MethodFact) (nodes : List Node) (i : ℕ) → given_from number ms ≤ 1 → AllGrow ms facts → IsKnown Q W k counter (lowered_methods P number ms facts nodes).nodes → IsNormal (lowered_methods P number ms facts nodes).nodes → from (lowered_methods P number ms facts nodes).nodes ≡ from nodes + given_from number ms
        → IsCounted (number + i) (slice_get ms i) (slice_get facts i) (slice_get (lowered_methods P number ms facts nodes).methods i)
    method_at number [] facts nodes i le h known normal eq = no_method (slice_get facts i)
    method_at number (m ∷ ms) [] nodes i le h known normal eq = no_fact (slice_get (m ∷ ms) i)
    method_at number (m ∷ ms) (fact ∷ facts) nodes zero le h known normal eq =
        let now = h.0 number nodes (omega (arith, le)) in
        let next = (whole number m fact nodes).nodes in
        let rest = methods_grow (number + 1) ms facts next (omega (arith, le)) h.1 in
        let all = (lowered_methods P (number + 1) ms facts next).nodes in
        let known1 = known_front Q W k counter next rest.more all rest.nodes_are known in
        let normal1 = normal_front next rest.more all rest.nodes_are normal in
        let a = now.few known1 normal1 in
        let b = rest.few known normal in
        let same : number ≡ number + 0 = omega (arith) in
        subst (λ (j : ℕ). IsCounted j (Some m) (Some fact) (Some (method_of P m fact (length nodes) (lowered_body P number m fact nodes)))) same
        (there m fact nodes (record { known = known1; first = now.first normal1; sum = omega (arith, a, b, eq); few = omega (arith, le) }))
    method_at number (m ∷ ms) (fact ∷ facts) nodes (suc i) le h known normal eq =
        let now = h.0 number nodes (omega (arith, le)) in
        let next = (whole number m fact nodes).nodes in
        let rest = methods_grow (number + 1) ms facts next (omega (arith, le)) h.1 in
        let all = (lowered_methods P (number + 1) ms facts next).nodes in
        let known1 = known_front Q W k counter next rest.more all rest.nodes_are known in
        let normal1 = normal_front next rest.more all rest.nodes_are normal in
        let a = now.few known1 normal1 in
        let b = rest.few known normal in
        let same : (number + 1) + i ≡ number + suc i = omega (arith) in
        subst (λ (j : ℕ). IsCounted j (slice_get ms i) (slice_get facts i) (slice_get (lowered_methods P (number + 1) ms facts next).methods i)) same
        (method_at (number + 1) ms facts next i (omega (arith, le)) h.1 known normal (omega (arith, a, b, eq)))

  -- ---- a counter's number is given in all methods once at most

  pub given_begun : (i : ℕ) → counter ≡ Begun i → (number : ℕ) (ms : List Method) → given_from number ms ≡ given_methods i ms
  unfolding does_give
  given_begun i e number [] = refl
  given_begun i e number (m ∷ ms) =
      let rest = given_begun i e (number + 1) ms in
      let own = subst (λ (c : Counter). does_give c m.body + marks Q W k c (mark.ReachedEnd number) ≡ given_statement i m.body) (sym e) (here m) in
      omega (arith, rest, own)
    where
      here : (m : Method) → does_give (Begun i) m.body + 0 ≡ given_statement i m.body
      here m = omega (arith)

  pub given_completed : (i : ℕ) → counter ≡ Completed i → (number : ℕ) (ms : List Method) → given_from number ms ≡ given_methods i ms
  unfolding does_give
  given_completed i e number [] = refl
  given_completed i e number (m ∷ ms) =
      let rest = given_completed i e (number + 1) ms in
      let own = subst (λ (c : Counter). does_give c m.body + marks Q W k c (mark.ReachedEnd number) ≡ given_statement i m.body) (sym e) (here m) in
      omega (arith, rest, own)
    where
      here : (m : Method) → does_give (Completed i) m.body + 0 ≡ given_statement i m.body
      here m = omega (arith)

  pub given_entered : (i : ℕ) → counter ≡ Entered i → (number : ℕ) (ms : List Method) → given_from number ms ≡ 0
  unfolding does_give
  given_entered i e number [] = refl
  given_entered i e number (m ∷ ms) =
      let rest = given_entered i e (number + 1) ms in
      let own = subst (λ (c : Counter). does_give c m.body + marks Q W k c (mark.ReachedEnd number) ≡ 0) (sym e) (here m) in
      omega (arith, rest, own)
    where
      here : (m : Method) → does_give (Entered i) m.body + 0 ≡ 0
      here m = omega (arith)

  pub given_ends : (i : ℕ) → counter ≡ ReachedEnd i → (number : ℕ) (ms : List Method) → (given_from number ms ≤ 1) × (i < number → given_from number ms ≡ 0)
  unfolding does_give
  given_ends i e number [] = (omega (arith), λ l. refl)
  given_ends i e number (m ∷ ms) = by (nat_eq i number) refl (subst (λ (c : Counter). does_give c m.body + marks Q W k c (mark.ReachedEnd number) ≡ (if nat_eq i number then 1 else 0)) (sym e) (here m)) (given_ends i e (number + 1) ms)
    where
      here : (m : Method) → does_give (ReachedEnd i) m.body + (if nat_eq i number then 1 else 0) ≡ (if nat_eq i number then 1 else 0)
      here m = omega (arith)

      by : (b : Bool) → nat_eq i number ≡ b → given_in number m ≡ (if b then 1 else 0) → ((given_from (number + 1) ms ≤ 1) × (i < number + 1 → given_from (number + 1) ms ≡ 0)) → (given_in number m + given_from (number + 1) ms ≤ 1) × (i < number → given_in number m + given_from (number + 1) ms ≡ 0)
      by true same own rest =
          let s : i ≡ number = grind (arith, nat_tests) in
          let z = rest.1 (omega (arith, s)) in
          (omega (arith, own, z), λ l. absurd (omega (arith, l, s)))
      by false same own rest =
          let few = rest.0 in
          (omega (arith, own, few), λ l. let z = rest.1 (omega (arith, l)) in omega (arith, own, z))
