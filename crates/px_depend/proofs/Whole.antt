-- What is listed is what the rules give.
use Rattle.std.proofs.Common.{◌≡◌, ℕ, zero, suc, List, [], ◌∷◌, ◌++◌, Some, slice_get, refl, sym, ◌⊎◌, inl, inr, ⊎_elim, subst}
use Rattle.std.proofs.lemmas.Option.{same_Some}
use Rattle.std.specs.List.Sorted.{IsStrictlySortedBy}
use Rattle.px_constraints.specs.System.{At}
use Rattle.px_normal.specs.declared.method.Method.{Method}
use Rattle.px_normal.specs.declared.code.Code.{Code}
use Rattle.px_normal.specs.First.{numbered}
use Rattle.px_flow_points.specs.Order.{put_all}
use Rattle.px_flow_points.specs.Statements.{IsMethod}
use Rattle.px_flow_points.specs.ByNode.{Found, AreTouched}
use Rattle.px_flow_points.proofs.Elements.{in_none, in_append, in_first, in_second, in_head}
use Rattle.px_flow_points.proofs.Inserting.{put_to, put_back}
use Rattle.px_depend.specs.declared.edge.Edge.{Edge}
use Rattle.px_depend.specs.declared.edge.End.TheVariants as end
use Rattle.px_depend.specs.declared.edge.Tie.TheVariants as tie
use Rattle.px_depend.specs.declared.lines.Does.TheVariants as does
use Rattle.px_depend.specs.Depend.{edge, IsEdge}
use Rattle.px_depend.specs.Depend as rule
use Rattle.px_depend.specs.Lines.{lines_of}
use Rattle.px_depend.specs.Local.{local_edges}
use Rattle.px_depend.specs.Objects.{object_edges}
use Rattle.px_depend.specs.Order.{edge_cmp, AreEdges}
use Rattle.px_depend.specs.Sizes.{size_of}
use Rattle.px_depend.specs.Summaries.{Adds, IsMet, met, shapes, IsGiven, given, IsSlotEdge, AreSlotEdges}
use Rattle.px_depend.proofs.EdgeOrder.{same_edge}
use Rattle.px_depend.proofs.Calls.{local_to, of_line, of_does, of_call, call_argument, call_result, of_entry}
use Rattle.px_depend.proofs.Holding.{objects_to, of_update, of_found}

-- ---- slots

met_edge : (code : Code) (n : ℕ) (m : Method) (x : Edge) → IsMethod code n m → IsMet m.slots (shapes m.body) x → IsEdge code x
met_edge code n m x is (met {k = k} t h) = rule.IsEdge.reaches {k = k} is t h

given_edge : (code : Code) (n : ℕ) (m : Method) (x : Edge) → IsMethod code n m → IsGiven m x → IsEdge code x
given_edge code n m x is (given {k = k} t le a) = rule.IsEdge.parameter {k = k} is le t a

slots_to : (code : Code) (ms : List Method) (x : Edge) → ((j : ℕ) (m : Method) → slice_get ms j ≡ Some m → (n : ℕ) × IsMethod code n m) → AreSlotEdges ms x → IsEdge code x
slots_to code [] x all h = absurd h
slots_to code (m ∷ ms) x all h = ⊎_elim
    (λ (t : IsSlotEdge m x). let r = all zero m refl in ⊎_elim (λ (u : IsMet m.slots (shapes m.body) x). met_edge code r.0 m x r.1 u) (λ (u : IsGiven m x). given_edge code r.0 m x r.1 u) t)
    (λ (t : AreSlotEdges ms x). slots_to code ms x (λ j k g. all (suc j) k g) t)
    h

slots_back : (ms : List Method) (j : ℕ) (m : Method) (x : Edge) → slice_get ms j ≡ Some m → IsSlotEdge m x → AreSlotEdges ms x
slots_back [] j m x g h = cc
slots_back (k ∷ ms) zero m x g h = inl (subst (λ (z : Method). IsSlotEdge z x) (sym (same_Some k m g)) h)
slots_back (k ∷ ms) (suc j) m x g h = inr (slots_back ms j m x g h)

of_slot : (code : Code) (n : ℕ) (m : Method) (x : Edge) → numbered code.methods n ≡ Some m → IsSlotEdge m x → AreSlotEdges code.methods x
of_slot code zero m x g h = cc
of_slot code (suc j) m x g h = slots_back code.methods j m x g h

-- ---- all

module _ (code : Code) (P : Found) (T : AreTouched code P) where
  abbrev Listed : Edge → Type 0
  Listed x = At (local_edges code (lines_of code)) x ⊎ (AreSlotEdges code.methods x ⊎ At (object_edges code P.writes P.reads) x)

  listed_to : (x : Edge) → Listed x → IsEdge code x
  listed_to x h = ⊎_elim (λ (t : At (local_edges code (lines_of code)) x). local_to code x t)
      (λ (t : AreSlotEdges code.methods x ⊎ At (object_edges code P.writes P.reads) x). ⊎_elim (λ (u : AreSlotEdges code.methods x). slots_to code code.methods x (λ j m g. (suc j, record { is = g })) u) (λ (u : At (object_edges code P.writes P.reads) x). objects_to code P T x u) t)
      h

  listed_back : (x : Edge) → IsEdge code x → Listed x
  listed_back x (rule.IsEdge.held {m = m} {by = by} {node = node} {d = d} at) = inl (of_line code m by node d (edge (end.Node by) node tie.Held 0) at (in_head (edge (end.Node by) node tie.Held 0) _))
  listed_back x (rule.IsEdge.asks {m = m} {by = by} {node = node} at) = inl (of_does code m by node does.Asks (edge end.Db node tie.Held 0) at (in_head (edge end.Db node tie.Held 0) []))
  listed_back x (rule.IsEdge.calls {m = m} {by = by} {node = node} {callee = callee} {method = method} at is) = inl (of_call code m by node callee method (edge (end.Node node) method.node tie.Enters 0) at is (in_head (edge (end.Node node) method.node tie.Enters 0) _))
  listed_back x (rule.IsEdge.enters {m = m} {method = method} is h) = inl (of_entry code m method is.is h)
  listed_back x (rule.IsEdge.reaches {m = m} {k = k} {d = d} {u = u} {method = method} {t = t} is g h) = inr (inl (of_slot code m method (edge (end.Node d) u (tie.Slot k) (size_of t)) is.is (inl (met {k = k} g h))))
  listed_back x (rule.IsEdge.parameter {m = m} {k = k} {u = u} {method = method} {t = t} is le g h) = inr (inl (of_slot code m method (edge (end.Node method.node) u (tie.Slot k) (size_of t)) is.is (inr (given {k = k} g le h))))
  listed_back x (rule.IsEdge.argument {m = m} {by = by} {node = node} {callee = callee} {k = k} {method = method} {t = t} at is le g) = inl (of_call code m by node callee method (edge (end.Node node) method.node (tie.Argument (suc k)) (size_of t)) at is (call_argument code node callee k method t le g))
  listed_back x (rule.IsEdge.returned {m = m} {by = by} {node = node} {callee = callee} {holder = holder} {back = back} {method = method} {t = t} at is gives g) = inl (of_call code m by node callee method (edge (end.Node back) node tie.Result (size_of t)) at is (call_result code node callee holder back method t gives g))
  listed_back x (rule.IsEdge.found {d = d} {u = u} {s = s} {part = q} {home = home} w r g) = inr (inr (of_found code P T d u s q home w r g))
  listed_back x (rule.IsEdge.updates {d = d} {s = s} {part = q} {home = home} w g) = inr (inr (of_update code P T d s q home w g))

  pub are_edges : (one two three all : List Edge) → one ≡ [] ++ local_edges code (lines_of code) → Adds one two (AreSlotEdges code.methods) → three ≡ two ++ object_edges code P.writes P.reads → all ≡ put_all edge_cmp [] three → IsStrictlySortedBy edge_cmp all → AreEdges code all
  are_edges one two three all a B c d rise = record {
    exact = λ x. record {
      to = λ h. listed_to x (⊎_elim
          (λ (t : At [] x). absurd (in_none x t))
          (λ (t : At three x). ⊎_elim
          (λ (u : At two x). ⊎_elim (λ (v : At one x). inl (subst (λ (z : List Edge). At z x) a v)) (λ (v : AreSlotEdges code.methods x). inr (inl v)) ((B x).to u))
          (λ (u : At (object_edges code P.writes P.reads) x). inr (inr u))
          (in_append two (object_edges code P.writes P.reads) x (subst (λ (z : List Edge). At z x) c t)))
          (put_to edge_cmp same_edge three [] x (subst (λ (z : List Edge). At z x) d h)));
      back = λ h. subst (λ (z : List Edge). At z x) (sym d) (put_back edge_cmp same_edge three [] x (inr (subst (λ (z : List Edge). At z x) (sym c) (⊎_elim
          (λ (t : At (local_edges code (lines_of code)) x). in_first two (object_edges code P.writes P.reads) x ((B x).back (inl (subst (λ (z : List Edge). At z x) (sym a) t))))
          (λ (t : AreSlotEdges code.methods x ⊎ At (object_edges code P.writes P.reads) x). ⊎_elim (λ (u : AreSlotEdges code.methods x). in_first two (object_edges code P.writes P.reads) x ((B x).back (inr u))) (λ (u : At (object_edges code P.writes P.reads) x). in_second two (object_edges code P.writes P.reads) x u) t)
          (listed_back x h)))));
    };
    rise = rise;
  }
