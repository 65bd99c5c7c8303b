-- Where facts stand: those of a tree in the order of its numbers, and the operations of its calls of `Db` in order too.
use Rattle.std.proofs.Common.{◌≡◌, ℕ, zero, suc, ◌+◌, List, [], ◌∷◌, ◌++◌, drop, Some, slice_get, sym, ap, ◌∙◌, subst, arith, append_assoc}
use Rattle.px_facts.specs.declared.types.Ty.{Ty}
use Rattle.px_facts.specs.declared.checked.Named.{Named}
use Rattle.px_facts.specs.declared.checked.Named.TheVariants as named
use Rattle.px_facts.specs.declared.checked.Fact.{Fact}
use Rattle.px_facts.specs.declared.checked.Facts.{Facts}
use Rattle.px_facts.specs.declared.operation.Operation.{Operation}
use Rattle.px_types.specs.declared.node.Node.{Node}
use Rattle.px_types.specs.Known.{fact_only}
use Rattle.px_types.specs.Sites.{with_numbers, call_after, site_after, sited, operations_in}
use Rattle.px_mean.specs.Facts.{type_in, type_at, named_in, named_at, by_number}

-- the rest of a list from a place on
pub first_in_drop : {A : Type 0} (xs ys : List A) (n : ℕ) (y : A) → drop n xs ≡ y ∷ ys → slice_get xs n ≡ Some y
first_in_drop [] ys zero y h = absurd (cc h)
first_in_drop [] ys (suc n) y h = absurd (cc h)
first_in_drop (x ∷ xs) ys zero y h = cc h
first_in_drop (x ∷ xs) ys (suc n) y h = first_in_drop xs ys n y h

pub rest_in_drop : {A : Type 0} (xs ys : List A) (n : ℕ) (y : A) → drop n xs ≡ y ∷ ys → drop (suc n) xs ≡ ys
rest_in_drop [] ys zero y h = absurd (cc h)
rest_in_drop [] ys (suc n) y h = absurd (cc h)
rest_in_drop (x ∷ xs) ys zero y h = cc h
rest_in_drop (x ∷ xs) ys (suc n) y h = rest_in_drop xs ys n y h

pub add_one : (n : ℕ) → suc n ≡ n + 1
add_one n = omega arith

-- From number n on the facts are those of these nodes. The next call of `Db` has the number `suc calls`.
pub record Rest (F : Facts) (n : ℕ) (nodes : List Node) : Type 0 where
  pub calls : ℕ
  pub site : ℕ
  pub facts : drop n F.nodes ≡ sited (suc calls) site nodes
  pub operations : drop calls F.operations ≡ operations_in nodes

-- ---- nodes that are no calls of `Db`

-- a name that has no number, and that makes nothing
abbrev pub IsFixed : Named → Type 0
IsFixed n = (call site : ℕ) → (with_numbers call site n ≡ n) × (call_after call n ≡ call)

-- what stands at n, and the rest behind it
pub record IsAt (F : Facts) (n : ℕ) (fact : Fact) (rest : List Node) : Type 0 where
  pub type_is : type_at F n ≡ fact.ty
  pub named_is : named_at F n ≡ fact.named
  pub next : Rest F (n + 1) rest

pub fixed_at : (F : Facts) (n : ℕ) (fact : Fact) (rest : List Node) → IsFixed fact.named → Rest F n (fact_only fact ∷ rest) → IsAt F n fact rest
fixed_at F n fact rest fixed r =
    let at = first_in_drop F.nodes (sited (call_after (suc r.calls) fact.named) (site_after r.site fact.named) rest) n (record { ty = fact.ty; named = with_numbers (suc r.calls) r.site fact.named }) r.facts in
    record {
      type_is = ap type_in at;
      named_is = ap named_in at ∙ (fixed (suc r.calls) r.site).0;
      next = record {
        calls = r.calls;
        site = site_after r.site fact.named;
        facts = ap (λ (k : ℕ). drop k F.nodes) (sym (add_one n)) ∙ rest_in_drop F.nodes _ n _ r.facts ∙ ap (λ (k : ℕ). sited k (site_after r.site fact.named) rest) (fixed (suc r.calls) r.site).1;
        operations = r.operations;
      };
    }

-- ---- `new`

pub record IsNewAt (F : Facts) (n : ℕ) (t : Ty) (names : ℕ → Named) (rest : List Node) : Type 0 where
  pub type_is : type_at F n ≡ t
  pub site : ℕ
  pub named_is : named_at F n ≡ names site
  pub next : Rest F (n + 1) rest

pub object_at : (F : Facts) (n class old : ℕ) (t : Ty) (rest : List Node) → Rest F n (fact_only (record { ty = t; named = named.NewObject class old }) ∷ rest) → IsNewAt F n t (λ site. named.NewObject class site) rest
object_at F n class old t rest r =
    let at = first_in_drop F.nodes (sited (suc r.calls) (r.site + 1) rest) n (record { ty = t; named = named.NewObject class r.site }) r.facts in
    record {
      type_is = ap type_in at;
      site = r.site;
      named_is = ap named_in at;
      next = record { calls = r.calls; site = r.site + 1; facts = ap (λ (k : ℕ). drop k F.nodes) (sym (add_one n)) ∙ rest_in_drop F.nodes _ n _ r.facts; operations = r.operations };
    }

pub array_at : (F : Facts) (n old : ℕ) (t : Ty) (rest : List Node) → Rest F n (fact_only (record { ty = t; named = named.NewArray old }) ∷ rest) → IsNewAt F n t (λ site. named.NewArray site) rest
array_at F n old t rest r =
    let at = first_in_drop F.nodes (sited (suc r.calls) (r.site + 1) rest) n (record { ty = t; named = named.NewArray r.site }) r.facts in
    record {
      type_is = ap type_in at;
      site = r.site;
      named_is = ap named_in at;
      next = record { calls = r.calls; site = r.site + 1; facts = ap (λ (k : ℕ). drop k F.nodes) (sym (add_one n)) ∙ rest_in_drop F.nodes _ n _ r.facts; operations = r.operations };
    }

-- ---- calls of `Db`

pub record IsCallAt (F : Facts) (n : ℕ) (t : Ty) (o : Operation) (names : ℕ → ℕ → Named) (rest : List Node) : Type 0 where
  pub type_is : type_at F n ≡ t
  pub number : ℕ
  pub site : ℕ
  pub named_is : named_at F n ≡ names number site
  pub operation_is : by_number F.operations number ≡ Some o
  pub next : Rest F (n + 1) rest

pub query_at : (F : Facts) (n old old_site : ℕ) (t : Ty) (o : Operation) (rest : List Node) → Rest F n (record { fact = record { ty = t; named = named.Query old old_site }; operation = Some o } ∷ rest) → IsCallAt F n t o (λ number site. named.Query number site) rest
query_at F n old old_site t o rest r =
    let at = first_in_drop F.nodes (sited (suc r.calls + 1) (r.site + 1) rest) n (record { ty = t; named = named.Query (suc r.calls) r.site }) r.facts in
    record {
      type_is = ap type_in at;
      number = suc r.calls;
      site = r.site;
      named_is = ap named_in at;
      operation_is = first_in_drop F.operations (operations_in rest) r.calls o r.operations;
      next = record {
        calls = suc r.calls;
        site = r.site + 1;
        facts = ap (λ (k : ℕ). drop k F.nodes) (sym (add_one n)) ∙ rest_in_drop F.nodes _ n _ r.facts ∙ ap (λ (k : ℕ). sited k (r.site + 1) rest) (sym (add_one (suc r.calls)));
        operations = rest_in_drop F.operations (operations_in rest) r.calls o r.operations;
      };
    }

pub update_at : (F : Facts) (n old : ℕ) (t : Ty) (o : Operation) (rest : List Node) → Rest F n (record { fact = record { ty = t; named = named.Update old }; operation = Some o } ∷ rest) → IsCallAt F n t o (λ number site. named.Update number) rest
update_at F n old t o rest r =
    let at = first_in_drop F.nodes (sited (suc r.calls + 1) r.site rest) n (record { ty = t; named = named.Update (suc r.calls) }) r.facts in
    record {
      type_is = ap type_in at;
      number = suc r.calls;
      site = r.site;
      named_is = ap named_in at;
      operation_is = first_in_drop F.operations (operations_in rest) r.calls o r.operations;
      next = record {
        calls = suc r.calls;
        site = r.site;
        facts = ap (λ (k : ℕ). drop k F.nodes) (sym (add_one n)) ∙ rest_in_drop F.nodes _ n _ r.facts ∙ ap (λ (k : ℕ). sited k r.site rest) (sym (add_one (suc r.calls)));
        operations = rest_in_drop F.operations (operations_in rest) r.calls o r.operations;
      };
    }

-- a list in two parts
pub regroup : (F : Facts) (n : ℕ) (xs ys zs : List Node) → Rest F n ((xs ++ ys) ++ zs) → Rest F n (xs ++ (ys ++ zs))
regroup F n xs ys zs r = subst (λ (ns : List Node). Rest F n ns) (append_assoc xs ys zs) r
