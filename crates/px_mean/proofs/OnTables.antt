-- The laws that join a run on tables with one on a list.
use Rattle.std.proofs.Common.{◌≡◌, List, [], ◌∷◌, append-nil, Option, refl, sym, ap, ◌∙◌, subst}
use Rattle.px_value.specs.declared.value.Value.{Value}
use Rattle.px_value.specs.declared.statement.TableOp.{TableOp}
use Rattle.px_value.specs.declared.answer.Answer.{Answer}
use Rattle.px_value.specs.Outcome.{Outcome, Gives, Throws, Asks}
use Rattle.px_rows.specs.Tables.{Tables}
use Rattle.px_rows.specs.Means.{answer_to, after, fed, answers_to}
use Rattle.px_mean.specs.Run.{Shared}
use Rattle.px_mean.specs.Asks.{by_tables}
use Rattle.px_mean.specs.Entry.{exec}
use Rattle.px_mean.specs.Laws.{Ends, on_list, IfEnds, with_world, EndsSo, EndsIn, AsksInOrder, IsAsOnList, TablesAsLists, ListsAsTables}
use Rattle.px_mean.proofs.Follows.{Told, Follows}
use Rattle.px_mean.proofs.FollowsThere.{NeverThrows, shared_view}
use Rattle.px_mean.proofs.FollowsCalls.{exec_follows}
use Rattle.px_mean.proofs.OnList.{IsGiven, given_or, state_or, question_or}

-- ---- which operations a run asks

abbrev DoesEnd : Ends → Type 0
DoesEnd (Gives v s) = Unit {0}
DoesEnd (Throws t s) = Unit {0}
DoesEnd (Asks q z) = ⊥

same_operations : (run : List Answer → Ends) (os os' : List TableOp) (T : Tables) → AsksInOrder run os (answers_to os T) → AsksInOrder run os' (answers_to os' T) → DoesEnd (run (answers_to os T)) → DoesEnd (run (answers_to os' T)) → os ≡ os'
same_operations run [] [] T h h' k k' = refl
same_operations run [] (o' ∷ os') T h h' k k' = absurd (subst DoesEnd h'.0.1 k)
same_operations run (o ∷ os) [] T h h' k k' = absurd (subst DoesEnd h.0.1 k')
same_operations run (o ∷ os) (o' ∷ os') T h h' k k' =
    let e : o' ≡ o = ap (λ (x : Ends). question_or o x) (sym h'.0.1 ∙ h.0.1) in
    let there = same_operations (λ more. run (answer_to o T ∷ more)) os os' (after o T) h.1 (subst (λ (x : TableOp). AsksInOrder (λ more. run (answer_to x T ∷ more)) os' (answers_to os' (after x T))) e h'.1) k (subst (λ (x : TableOp). DoesEnd (run (answer_to x T ∷ answers_to os' (after x T)))) e k') in
    λ i. sym e i ∷ there i

module _ (Q : Type 0) where
  abbrev O : Type 0
  O = Outcome Q Tables Answer

  never_thrown : NeverThrows Q Tables by_tables
  never_thrown o T to t e = subst (λ (x : O). IsGiven x) e tt

  -- what tables tell
  told_by_tables : (os : List TableOp) (xs : List Answer) (from to : Tables) → Told Q Tables by_tables os xs from to → (xs ≡ answers_to os from) × (to ≡ fed os from)
  told_by_tables [] [] from to h = (refl, sym h)
  told_by_tables (o ∷ os) (a ∷ xs) from to h =
      let p : answer_to o from ≡ a = ap (λ (x : O). given_or a x) h.1 in
      let q : after o from ≡ h.0 = ap (λ (x : O). state_or h.0 x) h.1 in
      let r = told_by_tables os xs h.0 to h.2 in
      let rest : xs ≡ answers_to os (after o from) = r.0 ∙ ap (answers_to os) (sym q) in
      (λ i. sym p i ∷ rest i, r.1 ∙ ap (fed os) (sym q))
  told_by_tables [] (a ∷ xs) from to h = absurd h
  told_by_tables (o ∷ os) [] from to h = absurd h

  as_on_list : (end : Outcome Q (Shared Tables) (Option Value)) (s : Shared Tables) (run : List Answer → Ends) → Follows Q Tables by_tables (shared_view Tables) (Option Value) end s run → IsAsOnList {Q = Q} end s.world run
  as_on_list (Gives v t) s run h =
      let e = told_by_tables h.operations h.answers s.world t.world h.told in
      record {
        operations = h.operations;
        asked = subst (λ (x : List Answer). AsksInOrder run h.operations x) e.0 h.asked;
        same = ap run (sym e.0 ∙ sym (append-nil h.answers)) ∙ h.reached [];
        tables_after = e.1;
      }
  as_on_list (Throws x t) s run h =
      let e = told_by_tables h.operations h.answers s.world t.world h.told in
      record {
        operations = h.operations;
        asked = subst (λ (x : List Answer). AsksInOrder run h.operations x) e.0 h.asked;
        same = ap run (sym e.0 ∙ sym (append-nil h.answers)) ∙ h.reached [];
        tables_after = e.1;
      }
  as_on_list (Asks q z) s run h = absurd (subst (λ (x : O). IsGiven x) h.untold tt)

  pub tables_as_lists : TablesAsLists Q
  tables_as_lists P heap T method args = as_on_list (exec {Q = Q} by_tables P heap T method args) (record { heap = heap; world = T; prints = []; turns = 0; operations = 0 }) (on_list P heap method args) (exec_follows Q Tables by_tables never_thrown P heap T method args)

  -- ---- the other way

  ends_so : (end : Outcome Q (Shared Tables) (Option Value)) (o : Ends) → EndsSo end [] o → DoesEnd o
  ends_so (Gives v t) o h = subst DoesEnd (sym h) tt
  ends_so (Throws e t) o h = subst DoesEnd (sym h) tt
  ends_so (Asks q z) o h = absurd h

  back : (end : Outcome Q (Shared Tables) (Option Value)) (o : Ends) (to : Tables) → EndsSo end [] o → EndsIn end to → IfEnds o (λ s. EndsSo o to end)
  back (Gives v t) o to h k = subst (λ (x : Ends). IfEnds x (λ s. EndsSo {R = Q} x to (Gives v t))) (sym h) (ap (λ (w : Tables). Gives v (with_world t w)) k)
  back (Throws e t) o to h k = subst (λ (x : Ends). IfEnds x (λ s. EndsSo {R = Q} x to (Throws e t))) (sym h) (ap (λ (w : Tables). Throws e (with_world t w)) k)
  back (Asks q z) o to h k = absurd h

  if_does : (o : Ends) (H : Shared (List Answer) → Type 0) → (DoesEnd o → IfEnds o H) → IfEnds o H
  if_does (Gives v t) H k = k tt
  if_does (Throws e t) H k = k tt
  if_does (Asks q z) H k = tt

  pub lists_as_tables : ListsAsTables Q
  lists_as_tables P heap T method args os h =
      let run = on_list P heap method args in
      let end = exec {Q = Q} by_tables P heap T method args in
      let there : IsAsOnList {Q = Q} end T run = tables_as_lists P heap T method args in
      if_does (run (answers_to os T)) _ (λ ends.
      let e = same_operations run there.operations os T there.asked h (ends_so end (run (answers_to there.operations T)) there.same) ends in
      back end (run (answers_to os T)) (fed os T) (subst (λ (x : List TableOp). EndsSo end [] (run (answers_to x T))) e there.same) (subst (λ (x : List TableOp). EndsIn end (fed x T)) e there.tables_after))
