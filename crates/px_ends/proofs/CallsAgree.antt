-- Calls and sessions at two ends are those on the one heap.
use Rattle.std.proofs.Common.{◌≡◌, ℕ, Bool, true, false, List, [], ◌∷◌, take, length, Option, Some, None, refl, sym, ap, ◌∙◌, subst, arith}
use Rattle.px_value.specs.declared.value.Value.TheVariants.{Ref}
use Rattle.px_value.specs.declared.header.Header.{Header}
use Rattle.px_value.specs.declared.object.Object.{Object}
use Rattle.px_blocks.specs.declared.side.Side.TheVariants.{App, Db}
use Rattle.px_ends.specs.Agree.{headers}
use Rattle.px_effects.specs.Act.{header_at}
use Rattle.px_blocks.specs.Plan.{Plan}
use Rattle.px_blocks.specs.Machine.{entered, Control, Machine}
use Rattle.px_blocks.specs.One.{One, Step, Goes, Ended, Falls, Waits, Asks, root_frame, one_begun, one_run, reply_of}
use Rattle.px_ends.specs.Agree.{lacks_of, Heaps, Agree}
use Rattle.px_ends.specs.Runs.{Pair, pair_run, Agrees, SameStep}
use Rattle.px_ends.specs.Calls.{Rests, pair_begun, committed, Replied, SameCall, Both, pair_kept, one_kept, NewRests, BeginAgrees, CallAgrees, SessionAgrees}
use Rattle.px_ends.proofs.Places.{same_headers, length_headers, same_length, take_all}
use Rattle.px_ends.proofs.HeapSteps.{carries, cross_heaps}
use Rattle.px_ends.proofs.StackSteps.{entered_like}
use Rattle.px_ends.proofs.Shared.{machine, with_control, share}
use Rattle.px_ends.proofs.Crossing.{transfer_alike}
use Rattle.px_ends.proofs.RunsAgree.{runs_agree}

pub new_rests : NewRests
new_rests plan heap = record { app_headers = refl; db_headers = refl; copies = λ o i. record { app_there = refl; db_there = refl; app_kept = λ _. refl; db_kept = λ _. refl } }

-- ---- the begin

has_it : (h : Option Header) → lacks_of h h ≡ false
has_it None = refl
has_it (Some h) = refl

begin_heaps : (plan : Plan) (app db one : List Object) → Rests plan app db one → Heaps plan App (length one) [] app db one
begin_heaps plan app db one h = record {
  near_headers = h.app_headers;
  far_headers = h.db_headers ∙ sym (ap (λ n. take n (headers one)) (sym (length_headers one)) ∙ take_all (headers one));
  known_in = omega arith;
  holds = λ o i. let c = h.copies o i in record {
    near_there = c.app_there;
    far_there = λ _. c.db_there;
    first_there = λ e. absurd (lacking o e);
    written_there = λ e. absurd (unmarked e);
    near_kept = c.app_kept;
    near_written = λ e. absurd (unmarked e);
    far_kept = λ k l w. c.db_kept k;
    new = λ e. absurd (lacking o e);
    new_near = λ e. absurd (lacking o e);
  };
}
  where
    unmarked : false ≡ true → ⊥
    unmarked e = cc

    apart : (b : Bool) → b ≡ true → b ≡ false → ⊥
    apart b e f = cc

    lacking : (o : ℕ) → lacks_of (header_at db o) (header_at one o) ≡ true → ⊥
    lacking o e = apart (lacks_of (header_at db o) (header_at one o)) e (ap (λ z. lacks_of z (header_at one o)) (same_headers db one o h.db_headers) ∙ has_it (header_at one o))

pub begin_agrees : (W : Type 0) → BeginAgrees W
begin_agrees W plan method args app db one world h = record {
  side = refl;
  block = refl;
  world = refl;
  operations = refl;
  story = refl;
  agree = record {
    split = record {
      control = λ k. record { frames = root_frame plan ∷ entered plan.code method 0 (Ref 0 ∷ args) ∷ []; base = 0; marks = []; named = []; known = same_length app one h.app_headers k; turns = 0 };
      heaps = begin_heaps plan app db one h;
      stacks = record { within = omega arith; reached = omega arith; like = (entered_like plan 0 0 [], (entered_like plan method 0 (Ref 0 ∷ args), tt)) };
      prints = refl;
    };
    named = λ o i e. absurd (unmarked e);
  };
}
  where
    unmarked : false ≡ true → ⊥
    unmarked e = cc

-- ---- the commit

commit_heaps : (plan : Plan) (known : ℕ) (near far one : List Object) → Heaps plan Db known [] far near one → length one ≡ known → Rests plan near far one
commit_heaps plan known near far one h e = record {
  app_headers = all;
  db_headers = h.near_headers;
  copies = λ o i. let c = h.holds o i in record {
    app_there = c.far_there (has o);
    db_there = c.near_there;
    app_kept = λ k. c.far_kept k (has o) refl;
    db_kept = c.near_kept;
  };
}
  where
    all : headers near ≡ headers one
    all = h.far_headers ∙ ap (λ n. take n (headers one)) (sym e ∙ sym (length_headers one)) ∙ take_all (headers one)

    has : (o : ℕ) → lacks_of (header_at near o) (header_at one o) ≡ false
    has o = ap (λ z. lacks_of z (header_at one o)) (same_headers near one o all) ∙ has_it (header_at one o)

commit_shared : (plan : Plan) (far : Machine) (hn ho : List Object) (pn po : List (List ℕ)) (c : Control) → Agree plan App (machine hn pn c) far (machine ho po c) → Rests plan hn (committed plan (machine hn pn c) far) ho
commit_shared plan far hn ho pn po c g =
    let split = g.split in
    commit_heaps plan (length ho) hn (carries plan c.known c.marks c.named hn far.heap) ho (cross_heaps plan App c.known c.marks c.named hn far.heap ho split.heaps g.named) refl

pub commit_rests : (plan : Plan) (near far one : Machine) → Agree plan App near far one → Rests plan near.heap (committed plan near far) one.heap
commit_rests plan near far one g =
    let split = g.split in
    let e : near ≡ with_control near one.control = share near one.control split.control in
    subst (λ (m : Machine). Rests plan m.heap (committed plan m far) one.heap) (sym e)
    (commit_shared plan far near.heap one.heap near.prints one.prints one.control (subst (λ (m : Machine). Agree plan App m far one) e g))

module _ (Q : Type 0) {W : Type 0} (plan : Plan) where
  replied : (p : Pair W) (o : One W) → Agrees plan p o → o.side ≡ App → Replied plan p o
  replied p o g s =
      let agree : Agree plan App p.near p.far o.machine = subst (λ z. Agree plan z p.near p.far o.machine) s g.agree in
      let split = agree.split in
      record {
        reply = ap reply_of split.control;
        prints = split.prints;
        turns = ap (λ (c : Control). c.turns) split.control;
        world = g.world;
        operations = g.operations;
        story = g.story;
        message = ap (λ t. t.updates) (transfer_alike plan App 0 p.near p.far o.machine agree);
        rests = commit_rests plan p.near p.far o.machine agree;
      }

  -- ---- a call

  pub call_ends : (s : Step Q (Pair W)) (t : Step Q (One W)) → SameStep plan s t → SameCall plan s t
  call_ends (Goes p) (Goes o) h = h
  call_ends (Goes p) (Ended o) h = absurd h
  call_ends (Goes p) (Falls u o) h = absurd h
  call_ends (Goes p) (Waits oq u o) h = absurd h
  call_ends (Goes p) (Asks r u o) h = absurd h
  call_ends (Ended p) (Goes o) h = absurd h
  call_ends (Ended p) (Ended o) h = replied p o h.0 h.1
  call_ends (Ended p) (Falls u o) h = absurd h
  call_ends (Ended p) (Waits oq u o) h = absurd h
  call_ends (Ended p) (Asks r u o) h = absurd h
  call_ends (Falls t p) (Goes o) h = absurd h
  call_ends (Falls t p) (Ended o) h = absurd h
  call_ends (Falls t p) (Falls u o) h = h
  call_ends (Falls t p) (Waits oq u o) h = absurd h
  call_ends (Falls t p) (Asks r u o) h = absurd h
  call_ends (Waits op s p) (Goes o) h = absurd h
  call_ends (Waits op s p) (Ended o) h = absurd h
  call_ends (Waits op s p) (Falls u o) h = absurd h
  call_ends (Waits op s p) (Waits oq u o) h = h
  call_ends (Waits op s p) (Asks r u o) h = absurd h
  call_ends (Asks q s p) (Goes o) h = absurd h
  call_ends (Asks q s p) (Ended o) h = absurd h
  call_ends (Asks q s p) (Falls u o) h = absurd h
  call_ends (Asks q s p) (Waits oq u o) h = absurd h
  call_ends (Asks q s p) (Asks r u o) h = h

pub call_agrees : (Q W : Type 0) → CallAgrees Q W
call_agrees Q W plan ask method args n app db one world h good =
    call_ends Q plan (pair_run plan ask n (pair_begun plan method args app db world)) (one_run plan ask n (one_begun plan method args one world))
    (runs_agree Q plan ask n (pair_begun plan method args app db world) (one_begun plan method args one world) (begin_agrees W plan method args app db one world h) good)

-- ---- a session

module _ (Q : Type 0) {W : Type 0} (plan : Plan) where
  kept_rests : (both : Both) (one : List Object) (s : Step Q (Pair W)) (t : Step Q (One W)) → Rests plan both.app both.db one → SameCall plan s t → Rests plan (pair_kept plan both s).app (pair_kept plan both s).db (one_kept one t)
  kept_rests both one (Goes p) (Goes o) e h = e
  kept_rests both one (Goes p) (Ended o) e h = absurd h
  kept_rests both one (Goes p) (Falls u o) e h = absurd h
  kept_rests both one (Goes p) (Waits oq u o) e h = absurd h
  kept_rests both one (Goes p) (Asks r u o) e h = absurd h
  kept_rests both one (Ended p) (Goes o) e h = absurd h
  kept_rests both one (Ended p) (Ended o) e h = h.rests
  kept_rests both one (Ended p) (Falls u o) e h = absurd h
  kept_rests both one (Ended p) (Waits oq u o) e h = absurd h
  kept_rests both one (Ended p) (Asks r u o) e h = absurd h
  kept_rests both one (Falls t p) (Goes o) e h = absurd h
  kept_rests both one (Falls t p) (Ended o) e h = absurd h
  kept_rests both one (Falls t p) (Falls u o) e h = e
  kept_rests both one (Falls t p) (Waits oq u o) e h = absurd h
  kept_rests both one (Falls t p) (Asks r u o) e h = absurd h
  kept_rests both one (Waits op s p) (Goes o) e h = absurd h
  kept_rests both one (Waits op s p) (Ended o) e h = absurd h
  kept_rests both one (Waits op s p) (Falls u o) e h = absurd h
  kept_rests both one (Waits op s p) (Waits oq u o) e h = e
  kept_rests both one (Waits op s p) (Asks r u o) e h = absurd h
  kept_rests both one (Asks q s p) (Goes o) e h = absurd h
  kept_rests both one (Asks q s p) (Ended o) e h = absurd h
  kept_rests both one (Asks q s p) (Falls u o) e h = absurd h
  kept_rests both one (Asks q s p) (Waits oq u o) e h = absurd h
  kept_rests both one (Asks q s p) (Asks r u o) e h = e

pub session_agrees : (Q W : Type 0) → SessionAgrees Q W
session_agrees Q W plan ask [] both one r good = r
session_agrees Q W plan ask (a ∷ attempts) both one r good =
    let s : Step Q (Pair W) = pair_run plan ask a.blocks (pair_begun plan a.method a.args both.app both.db a.world) in
    let t : Step Q (One W) = one_run plan ask a.blocks (one_begun plan a.method a.args one a.world) in
    session_agrees Q W plan ask attempts (pair_kept plan both s) (one_kept one t) (kept_rests Q plan both one s t r (call_agrees Q W plan ask a.method a.args a.blocks both.app both.db one a.world r good.0)) good.1
