-- A move within a site is one event.
use Rattle.std.proofs.Common.{◌≡◌, ℕ, Bool, true, List, [], Option, Some, None, refl, sym, ap}
use Rattle.std.proofs.Common.{subst, ◌∙◌, inl, inr}
use Rattle.std.specs.Prelude.{is_some, ◌&&◌, not}
use Rattle.std.proofs.lemmas.Bool.{and_parts, or_cases}
use Rattle.chem_model.specs.declared.name.Loc.{Loc}
use Rattle.chem_model.specs.declared.name.Name.{Name}
use Rattle.chem_model.specs.declared.name.Name.TheVariants as name
use Rattle.chem_model.specs.declared.event.AtomId.{AtomId}
use Rattle.chem_model.specs.declared.event.Event.TheVariants as event
use Rattle.chem_model.specs.declared.numbered.NumberedRule.{NumberedRule}
use Rattle.chem_model.specs.declared.numbered.Made.{Made}
use Rattle.chem_model.specs.declared.name.Ref.TheVariants.{Known}
use Rattle.chem_model.specs.Opening.{root_of}
use Rattle.chem_model.specs.Pour.{pour}
use Rattle.chem_model.specs.Process.{Msg}
use Rattle.chem_model.specs.Reduction.{all_known}
use Rattle.wire_packet.specs.declared.packet.Ask.{Ask}
use Rattle.wire_packet.specs.declared.packet.Ask.TheVariants as request
use Rattle.wire_packet.specs.GroupFacts.{GroupParts, RequestParts}
use Rattle.env_store.specs.CodeParts.{CodeParts}
use Rattle.loc_tree.specs.Tree.{Tree, spot, number_in, is_root, is_alive, is_dead, can_move}
use Rattle.loc_tree.specs.Tree.{can_fall, can_leave, with_number}
use Rattle.loc_tree.specs.Places.{IsTree}
use Rattle.loc_tree.proofs.Alive.{own_number}
use Rattle.net_laws.specs.Site.{Site}
use Rattle.net_laws.specs.Net.{among}
use Rattle.net_laws.specs.Kept.{IsKept}
use Rattle.net_laws.specs.Holding.{request_with, drop_request}
use Rattle.net_laws.specs.Choices.{effects}
use Rattle.net_laws.specs.Moves.{may_go, continuation_made, moved_made}
use Rattle.net_laws.specs.Meeting.{sent_here}
use Rattle.net_laws.specs.Parts.{GoesOn}
use Rattle.net_laws.proofs.Meeting.{move_within_is_one_event}
use Rattle.net_laws.proofs.Trees.{number_kept}
use Rattle.site_solution.specs.Answers.{Answers}
use Rattle.router.specs.Happening.{Happens}
use Rattle.site_solution.specs.InCode.{is_in_code}
use Rattle.site_solution.specs.InTree.{name_stands, is_in_tree}
use Rattle.site_solution.specs.inside.InTree.{ask_stands, request_stands}
use Rattle.site_solution.specs.Pours.{HasEmitted}
use Rattle.site_solution.specs.Staying.{StillFits}
use Rattle.site_solution.proofs.Staying.{same_numbers}
use Rattle.site_solution.specs.declared.effects.Effects.{Effects}
use Rattle.router.proofs.Sending.{asked_here, happens, sent_in_code, sent_then_dropped}
use Rattle.router.proofs.Sending.{emitted_dropped}
use Rattle.site_solution.proofs.Together.{in_tree_parts, in_tree_from, number_here, request_id}
use Rattle.site_solution.proofs.Together.{request_passes, numbers_same, fresh_same, places_same}
use Rattle.migration.specs.Moves.{goes, is_ready, can_go}
use Rattle.migration.specs.Within.{goes_to_one_of, leads_to_one_of, leads_into, IsMoveWithin}
use Rattle.migration.specs.Within.{IsOneMove, FitWithin}
use Rattle.loc_tree.proofs.Away.{goes_within}

-- ---- what a request tells whose location may move

pub record MayMove (t : Tree) (l : Loc) (w : Ask) : Type 0 where
  pub target : Loc
  pub cont : Name
  pub asks : w ≡ request.Go (name.Place target) cont
  pub can : can_leave t l target ≡ true

told : (t : Tree) (l : Loc) (w : Ask) → goes 2 t l w ≡ true → MayMove t l w
told t l (request.Fail a k) e = absurd (cc)
told t l request.Halt e = absurd (cc)
told t l (request.Go (name.Place b) k) e = record { target = b; cont = k; asks = refl; can = e }
told t l (request.Go (name.Seen i) k) e = absurd (cc)
told t l (request.Go (name.Chan s j h) k) e = absurd (cc)
told t l (request.Go (name.Num n) k) e = absurd (cc)
told t l (request.Go (name.Op i) k) e = absurd (cc)

some_asked : (t : Tree) (o : Option RequestParts) → is_ready 2 t o ≡ true → is_some o ≡ true
some_asked t None e = absurd (cc)
some_asked t (Some q) e = refl

module _ (t : Tree) (s : Site) (i : AtomId) (can : can_go 2 t i s ≡ true) where
  pub asked_there : is_some (request_with i s.requests) ≡ true
  asked_there = some_asked t (request_with i s.requests) can

  pub may_move : (q : RequestParts) → request_with i s.requests ≡ Some q → MayMove t q.loc q.ask
  may_move q there = told t q.loc q.ask (sym (ap (is_ready 2 t) there) ∙ can)

-- with the rules of any version
pub may_by :
    (version : ℕ) (t : Tree) (s : Site) (i : AtomId) (q : RequestParts) (b : Loc) (k : Name)
    → can_go version t i s ≡ true → request_with i s.requests ≡ Some q
    → q.ask ≡ request.Go (name.Place b) k → may_go version t q.loc b ≡ true
may_by version t s i q b k can there asks =
    sym (ap (goes version t q.loc) asks) ∙ sym (ap (is_ready version t) there) ∙ can

-- a request has one target and one continuation
pub one_goal : (t : Tree) (l : Loc) (w : Ask) (b : Loc) (k : Name) → MayMove t l w
    → w ≡ request.Go (name.Place b) k → can_leave t l b ≡ true
one_goal t l w b k it asks =
    let same : request.Go (name.Place it.target) it.cont ≡ request.Go (name.Place b) k =
    sym it.asks ∙ asks in
    let at : it.target ≡ b = cc in
    ap (can_leave t l) (sym at) ∙ it.can

-- both names stand in the tree
pub goal_stands : (t : Tree) (s : Site) (i : AtomId) (q : RequestParts) (b : Loc) (k : Name)
    → is_in_tree t s ≡ true → request_with i s.requests ≡ Some q
    → q.ask ≡ request.Go (name.Place b) k
    → (name_stands t (name.Place b) ≡ true) × (name_stands t k ≡ true)
goal_stands t s i q b k in_tree there asks =
    let stands : request_stands t q ≡ true =
    request_passes (request_stands t) s.requests i q (in_tree_parts t s in_tree).requests there in
    let both : name_stands t (name.Place b) && name_stands t k ≡ true =
    sym (ap (ask_stands t) asks) ∙ stands in
    and_parts (name_stands t (name.Place b)) (name_stands t k) both

-- be its target alive or dead, it is alive and no root, and the target is a root
pub record Leaves (t : Tree) (l b : Loc) : Type 0 where
  pub lives : is_alive t l ≡ true
  pub no_root : not (is_root t l) ≡ true
  pub to_root : is_root t b ≡ true

leaves_by : (t : Tree) (l b : Loc) (u : Bool)
    → (is_alive t l && not (is_root t l)) && (u && is_root t b) ≡ true → Leaves t l b
leaves_by t l b u e =
    let both = and_parts (is_alive t l && not (is_root t l)) (u && is_root t b) e in
    let own = and_parts (is_alive t l) (not (is_root t l)) both.0 in
    record { lives = own.0; no_root = own.1; to_root = (and_parts u (is_root t b) both.1).1 }

pub leaves : (t : Tree) (l b : Loc) → can_leave t l b ≡ true → Leaves t l b
leaves t l b can =
    elim (or_cases (can_move t l b) (can_fall t l b) can) [
      | inl go ↦ leaves_by t l b (is_alive t b) go
      | inr fall ↦ leaves_by t l b (is_dead t b) fall
    ]

-- the target has the number of the site that hosts it, and as a root that of its own site
pub target_number : (t : Tree) (s : Site) (l b : Loc) → IsTree t → is_in_tree t s ≡ true
    → can_leave t l b ≡ true → among s.locs b ≡ true → b.site ≡ s.number
target_number t s l b tree in_tree can here =
    let own : number_in (spot t b) ≡ Some b.site = own_number t tree b (leaves t l b can).to_root in
    let hosted : number_in (spot t b) ≡ Some s.number =
    number_here t s.number s.locs b (in_tree_parts t s in_tree).hosted here in
    cc

pub target_here : (s into : Site) (i : AtomId) (q : RequestParts) (b : Loc) (k : Name)
    → leads_into i s into ≡ true → request_with i s.requests ≡ Some q
    → q.ask ≡ request.Go (name.Place b) k → among into.locs b ≡ true
target_here s into i q b k leads there asks =
    sym (ap (goes_to_one_of into.locs) asks) ∙ sym (ap (leads_to_one_of into.locs) there) ∙ leads

-- within a site no location falls
pub record MovesHere (t : Tree) (s : Site) (l b : Loc) : Type 0 where
  pub can : can_move t l b ≡ true
  pub number : b.site ≡ s.number

pub moves_here : (t : Tree) (s : Site) (i : AtomId) (q : RequestParts) (b : Loc) (k : Name)
    → IsTree t → IsKept s → is_in_tree t s ≡ true → can_go 2 t i s ≡ true → leads_into i s s ≡ true
    → request_with i s.requests ≡ Some q → q.ask ≡ request.Go (name.Place b) k
    → MovesHere t s q.loc b
moves_here t s i q b k tree kept in_tree ready leads there asks =
    let leave = one_goal t q.loc q.ask b k (may_move t s i ready q there) asks in
    let number =
    target_number t s q.loc b tree in_tree leave (target_here s s i q b k leads there asks) in
    let hosted : number_in (spot t q.loc) ≡ Some s.number =
    number_here t
    s.number s.locs q.loc (in_tree_parts t s in_tree).hosted (asked_here s i q kept there) in
    record {
      can = goes_within t tree q.loc b leave (hosted ∙ ap (λ (n : ℕ). Some n) (sym number));
      number = number;
    }

-- ---- what a move within a site does

module _ (seen : List ℕ) (t : Tree) (s : Site) (i : AtomId) (q : RequestParts) (b : Loc)
    (cont : Name) (there : request_with i s.requests ≡ Some q)
    (asks : q.ask ≡ request.Go (name.Place b) cont)
    (can : can_move t q.loc b ≡ true) (number : b.site ≡ s.number) (moved : Tree)
    (moves : moved ≡ with_number t q.loc b.site) (new : Site) (e : Effects)
    (answers : Answers
    (sent_here t (continuation_made seen s.number q.loc s.made cont) (drop_request i s))
    (continuation_made seen s.number q.loc s.made cont).outs [] new e) where
  same_number : moved ≡ with_number t q.loc s.number
  same_number = moves ∙ ap (with_number t q.loc) number

  pub move_within : IsMoveWithin seen i t s moved new e
  move_within = record {
    asked = q;
    target = b;
    cont = cont;
    here = there;
    asks = asks;
    tree = same_number;
    answers = answers;
  }

  module _ (kept : IsKept s) (in_tree : is_in_tree t s ≡ true) where
    hosted : number_in (spot t q.loc) ≡ Some s.number
    hosted = number_here t
        s.number s.locs q.loc (in_tree_parts t s in_tree).hosted (asked_here s i q kept there)

    target_lives : is_alive t b ≡ true
    target_lives = (and_parts (is_alive t b) (is_root t b)
        (and_parts (is_alive t q.loc && not (is_root t q.loc)) (is_alive t b && is_root t b)
        can).1).0

    pub one_move : (rules_of : GroupParts → List NumberedRule)
        → IsOneMove rules_of seen i t s moved new e
    one_move rules_of rules atoms n part ready =
        let a : Made = continuation_made seen s.number q.loc s.made cont in
        let id = request_id s.requests i q there in
        let own : request_with q.id s.requests ≡ Some q =
        ap (λ (j : AtomId). request_with j s.requests) id ∙ there in
        let may = may_by n.version t s i q b cont ready there asks in
        let moved_on = (move_within_is_one_event rules_of seen t s.number s q b cont rules atoms n
        part kept own asks may hosted number).0 in
        let goes_on : GoesOn rules_of seen (with_number t q.loc s.number)
        s.number (sent_here t a (drop_request q.id s)).site
        (effects (sent_here t a (drop_request q.id s)) a.outs []) rules atoms n (event.Move q.id) =
        subst (λ (u : Bool). let m = moved_made u seen s.number q.loc s.made cont in
        let o = sent_here t m (drop_request q.id s) in
        GoesOn rules_of seen (with_number t q.loc s.number) s.number o.site (effects o m.outs [])
        rules atoms n (event.Move q.id)) target_lives moved_on in
        let same : Answers (sent_here t a (drop_request q.id s)) a.outs [] new e =
        subst (λ (j : AtomId). Answers (sent_here t a (drop_request j s)) a.outs [] new e) (sym id)
        answers in
        let at_tree : Happens rules_of seen (with_number t q.loc s.number) s.number new e rules
        atoms n (event.Move q.id) = happens rules_of seen (with_number t q.loc s.number)
        s.number (sent_here t a (drop_request q.id s)) a.outs new e rules atoms n (event.Move q.id)
        same goes_on in
        let at_id : Happens rules_of seen (with_number t q.loc s.number) s.number new e rules atoms
        n (event.Move i) = subst (λ (j : AtomId). Happens rules_of seen
        (with_number t q.loc s.number) s.number new e rules atoms n (event.Move j)) id at_tree in
        subst (λ (u : Tree). Happens rules_of seen u s.number new e rules atoms n (event.Move i))
        (sym same_number) at_id

    pub within_keeps : (v : Site) → HasEmitted t v → HasEmitted moved v
    within_keeps v h =
        let u : Tree = with_number t q.loc s.number in
        let same : (x : Loc) → number_in (spot t x) ≡ number_in (spot u x) =
        λ (x : Loc). sym (number_kept t q.loc s.number hosted x) in
        subst (λ (w : Tree). HasEmitted w v) (sym same_number) (record {
          all_there = in_tree_from u v (numbers_same t u same v (in_tree_parts t v h.all_there));
          drawn = h.drawn;
          fresh = fresh_same t u (places_same t u same) v.number v.made h.fresh;
        })

    pub within_others : (c : CodeParts) (v : Site) → StillFits c t v moved v
    within_others c v =
        let u : Tree = with_number t q.loc s.number in
        subst (λ (w : Tree). StillFits c t v w v) (sym same_number)
        (same_numbers c t u v (λ x. sym (number_kept t q.loc s.number hosted x)))

-- all that the call promises of the move
pub record MovedWithin (seen : List ℕ) (i : AtomId) (t : Tree) (s : Site) (moved : Tree)
    (new : Site) (e : Effects) : Type 0 where
  pub ok : IsMoveWithin seen i t s moved new e
  pub one_event : (rules_of : GroupParts → List NumberedRule)
      → IsOneMove rules_of seen i t s moved new e
  pub fit : FitWithin t s moved new

-- the message is sent, and then the request is dropped
pub sent_alone :
    (seen : List ℕ) (l : Loc) (cont : Name) (args : List Name) (t : Tree) (s sent : Site)
    (e : Effects) → args ≡ []
    → (let a =
    pour seen s.number (root_of s.number) [] l s.made (Msg (Known cont) (all_known args)) in
    Answers (sent_here t a s) a.outs [] sent e)
    → let a = continuation_made seen s.number l s.made cont in
    Answers (sent_here t a s) a.outs [] sent e
sent_alone seen l cont args t s sent e none answers = subst (λ (ns : List Name).
    let a = pour seen s.number (root_of s.number) [] l s.made (Msg (Known cont) (all_known ns)) in
    Answers (sent_here t a s) a.outs [] sent e) none answers

pub moved_within :
    (seen : List ℕ) (t : Tree) (s sent new : Site) (i : AtomId) (q : RequestParts) (b : Loc)
    (cont : Name) (moved : Tree) (e : Effects)
    → request_with i s.requests ≡ Some q → q.ask ≡ request.Go (name.Place b) cont
    → MovesHere t s q.loc b → IsKept s → is_in_tree t s ≡ true → moved ≡ with_number t q.loc b.site
    → (let a = continuation_made seen s.number q.loc s.made cont in
    Answers (sent_here t a s) a.outs [] sent e) → HasEmitted t sent → new ≡ drop_request i sent
    → MovedWithin seen i t s moved new e
moved_within seen t s sent new i q b cont moved e there asks here kept in_tree moves answers emitted
    is =
    let a : Made = continuation_made seen s.number q.loc s.made cont in
    let dropped = sent_then_dropped seen s.number q.loc s.made cont t s sent e answers i in
    let done : Answers (sent_here t a (drop_request i s)) a.outs [] new e =
    subst (λ (v : Site). Answers (sent_here t a (drop_request i s)) a.outs [] v e) (sym is)
    dropped in
    let left : HasEmitted t new =
    subst (λ (v : Site). HasEmitted t v) (sym is) (emitted_dropped t sent i emitted) in
    let others : (c : CodeParts) (v : Site) → StillFits c t v moved v =
    within_others seen t s i q b cont there asks here.can here.number moved moves new e done kept
    in_tree in
    record {
      ok = move_within seen t s i q b cont there asks here.can here.number moved moves new e done;
      one_event = λ rules_of. one_move seen t s i q b cont there asks here.can here.number moved
          moves new e done kept in_tree rules_of;
      fit = record {
        site = within_keeps seen t s i q b cont there asks here.can here.number moved moves new e
            done kept in_tree new left;
        in_code = λ c coded. (others c new).in_code (ap (λ (v : Site). is_in_code c t v) is
            ∙ sent_in_code seen s.number q.loc s.made cont t s sent e answers c coded);
        others = others;
      };
    }
