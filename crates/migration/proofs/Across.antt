-- A move from one site to another is one event.
use Rattle.std.proofs.Common.{◌≡◌, ℕ, Bool, true, false, cond, List, [], ◌∷◌, ◌++◌, Some, refl, sym}
use Rattle.std.proofs.Common.{ap, subst, ◌∙◌}
use Rattle.std.specs.Prelude.{◌||◌}
use Rattle.std.specs.Option.{option_map}
use Rattle.std.proofs.lemmas.Bool.{or_right}
use Rattle.chem_model.specs.declared.name.Loc.{Loc}
use Rattle.chem_model.specs.declared.name.Name.{Name}
use Rattle.chem_model.specs.declared.name.Name.TheVariants as name
use Rattle.chem_model.specs.declared.event.AtomId.{AtomId}
use Rattle.chem_model.specs.declared.event.Out.{Out}
use Rattle.chem_model.specs.declared.numbered.NumberedRule.{NumberedRule}
use Rattle.chem_model.specs.declared.numbered.Made.{Made}
use Rattle.chem_model.specs.Solution.{same_loc}
use Rattle.wire_packet.specs.declared.packet.Ask.TheVariants as request
use Rattle.wire_packet.specs.GroupFacts.{GroupParts, RequestParts}
use Rattle.loc_tree.specs.Tree.{Tree, spot, number_in, renumbered, is_alive, with_number}
use Rattle.loc_tree.proofs.Spots.{same_loc_refl}
use Rattle.net_laws.specs.Site.{Site, told_in}
use Rattle.net_laws.specs.Net.{among}
use Rattle.net_laws.specs.Net.{Effects as effects_of}
use Rattle.net_laws.specs.Kept.{IsKept, AreApart}
use Rattle.net_laws.specs.Holding.{request_with, drop_request}
use Rattle.net_laws.specs.Moves.{moved_made}
use Rattle.net_laws.specs.Meeting.{sent_here}
use Rattle.net_laws.specs.Parcels.{Load, pack, remove, take_in}
use Rattle.net_laws.specs.Posting.{Outcome}
use Rattle.net_laws.specs.Parts.{MoveOf}
use Rattle.net_laws.proofs.Calls.{apart_both, apart_there, all_elsewhere}
use Rattle.net_laws.proofs.Meeting.{move_between_is_one_event}
use Rattle.net_laws.proofs.Parcels.{dropped, packed, taken_in}
use Rattle.net_laws.proofs.Posting.{among_append}
use Rattle.net_laws.proofs.Trees.{number_spot}
use Rattle.site_solution.specs.Answers.{Answers}
use Rattle.site_solution.specs.InTree.{is_in_tree}
use Rattle.site_solution.specs.declared.effects.Effects.{Effects}
use Rattle.site_solution.proofs.Dropping.{sent_tree}
use Rattle.router.proofs.Sending.{asked_here}
use Rattle.site_solution.proofs.Together.{in_tree_parts, number_here, request_id}
use Rattle.migration.specs.Across.{IsMoveBetween, MovesOver, IsOneMoveBetween}
use Rattle.migration.proofs.Between.{remove_less}
use Rattle.migration.proofs.Within.{may_by}

-- what the packed location may join has no group with a channel of it
pub packed_apart : (from into : Site) (i : AtomId) (q : RequestParts) → IsKept from → IsKept into
    → request_with i from.requests ≡ Some q → among into.locs q.loc ≡ false
    → AreApart (told_in into.groups ++ (pack q.loc (drop_request i from)).groups)
packed_apart from into i q kept_from kept_into there away =
    let l = q.loc in
    let own : request_with q.id from.requests ≡ Some q =
    ap (λ (j : AtomId). request_with j from.requests) (request_id from.requests i q there)
    ∙ there in
    let gone = dropped q from kept_from own in
    let parcel = packed l (drop_request q.id from) gone.kept in
    apart_both (told_in into.groups) (pack l (drop_request i from)).groups kept_into.apart
    (apart_there l from.groups kept_from.apart)
    (all_elsewhere l into.locs (told_in into.groups) (pack l (drop_request i from)).groups
    (λ here. go here away) kept_into.groups_here parcel.groups)
  where
    go : {b : Bool} → b ≡ true → b ≡ false → ⊥
    go e f = cc

-- a site that takes a location in hosts it
pub arrives : (from into : Site) (i : AtomId) (q : RequestParts) → IsKept from → IsKept into
    → request_with i from.requests ≡ Some q → among into.locs q.loc ≡ false
    → among (take_in (pack q.loc (drop_request i from)) into).locs q.loc ≡ true
arrives from into i q kept_from kept_into there away =
    let l = q.loc in
    let own : request_with q.id from.requests ≡ Some q =
    ap (λ (j : AtomId). request_with j from.requests) id ∙ there in
    let gone = dropped q from kept_from own in
    let load : Load = pack l (drop_request i from) in
    let kept : IsKept (drop_request i from) =
    subst (λ (j : AtomId). IsKept (drop_request j from)) id gone.kept in
    let came = taken_in load into kept_into (packed l (drop_request i from) kept)
    (packed_apart from into i q kept_from kept_into there away) in
    ap (λ (ls : List Loc). among ls l) came.locs ∙ among_append into.locs (l ∷ []) l
    ∙ or_right (among into.locs l) (same_loc l l || false) (ap (λ u. u || false) (same_loc_refl l))
  where
    id : q.id ≡ i
    id = request_id from.requests i q there

module _ (seen : List ℕ) (t : Tree) (from into : Site) (i : AtomId) (q : RequestParts) (b : Loc)
    (cont : Name) (there : request_with i from.requests ≡ Some q)
    (asks : q.ask ≡ request.Go (name.Place b) cont)
    (number : b.site ≡ into.number) (moved : Tree) (moves : moved ≡ with_number t q.loc b.site)
    (left new : Site) (leaves : left ≡ remove q.loc from) (e : Effects)
    (kept_from : IsKept from) (kept_into : IsKept into) (away : among into.locs q.loc ≡ false)
    (answers : Answers
    (sent_here t (moved_made (is_alive t b) seen into.number q.loc into.made cont)
    (take_in (pack q.loc (drop_request i from)) into))
    (moved_made (is_alive t b) seen into.number q.loc into.made cont).outs [] new e) where
  same_number : moved ≡ with_number t q.loc into.number
  same_number = moves ∙ ap (with_number t q.loc) number

  leaves_it : left ≡ remove q.loc (drop_request i from)
  leaves_it = leaves ∙ sym (remove_less q.loc i q refl from there)

  others : (x : Loc) → same_loc q.loc x ≡ false
      → number_in (spot t x) ≡ number_in (spot (with_number t q.loc into.number) x)
  others x differ = sym (ap number_in (number_spot t q.loc into.number x)
      ∙ ap
      (λ (u : Bool). number_in (cond u (option_map (renumbered into.number) (spot t x)) (spot t x)))
      differ)

  -- what the move makes is left by the new tree as by the old one
  same_sent : (u : Bool) → let came = take_in (pack q.loc (drop_request i from)) into in
      let a = moved_made u seen into.number q.loc into.made cont in
      sent_here t a came ≡ sent_here (with_number t q.loc into.number) a came
  same_sent true = sent_tree t (with_number t q.loc into.number) q.loc others seen
      into.number q.loc into.made cont (take_in (pack q.loc (drop_request i from)) into)
      (arrives from into i q kept_from kept_into there away)
  same_sent false = refl

  by_new_tree : (u : Tree) → u ≡ with_number t q.loc into.number
      → let a = moved_made (is_alive t b) seen into.number q.loc into.made cont in
      Answers (sent_here u a (take_in (pack q.loc (drop_request i from)) into)) a.outs [] new e
  by_new_tree u is =
      let a : Made = moved_made (is_alive t b) seen into.number q.loc into.made cont in
      let came : Site = take_in (pack q.loc (drop_request i from)) into in
      let first : Answers (sent_here (with_number t q.loc into.number) a came) a.outs [] new e =
      subst (λ (o : Outcome). Answers o a.outs [] new e) (same_sent (is_alive t b)) answers in
      subst (λ (v : Tree). Answers (sent_here v a came) a.outs [] new e) (sym is) first

  pub move_between : IsMoveBetween seen i t from into moved left new e
  move_between = record {
    asked = q;
    target = b;
    cont = cont;
    here = there;
    asks = asks;
    tree = same_number;
    leaves = leaves_it;
    answers = by_new_tree moved same_number;
  }

  pub one_move_between : (rules_of : GroupParts → List NumberedRule) → is_in_tree t from ≡ true
      → IsOneMoveBetween rules_of seen i t from into left new e
  one_move_between rules_of in_tree p rules atoms n differ are there_p ready =
      let same_request : Some q ≡ Some p = sym there ∙ there_p in
      let is : q ≡ p = cc in
      subst (λ (r : RequestParts). MovesOver rules_of seen t from into r left new e rules atoms n)
      is over
    where
      over : MovesOver rules_of seen t from into q left new e rules atoms n
      over =
          let a : Made = moved_made (is_alive t b) seen into.number q.loc into.made cont in
          let may = may_by n.version t from i q b cont ready there asks in
          let id = request_id from.requests i q there in
          let own : request_with q.id from.requests ≡ Some q =
          ap (λ (j : AtomId). request_with j from.requests) id ∙ there in
          let hosted : number_in (spot t q.loc) ≡ Some from.number =
          number_here t from.number from.locs q.loc (in_tree_parts t from in_tree).hosted
          (asked_here from i q kept_from there) in
          let u : Tree = with_number t q.loc into.number in
          let o_at : AtomId → Outcome =
          λ (j : AtomId). sent_here u a (take_in (pack q.loc (drop_request j from)) into) in
          let not_here : among into.locs q.loc ≡ true → ⊥ = λ here. absurd_of here away in
          let done =
          (move_between_is_one_event rules_of seen t from.number into.number from into q b cont
          rules atoms n differ are not_here kept_from kept_into own asks may hosted number).0 in
          let carried : List Out → List Loc → effects_of =
          λ (shown : List Out) (born : List Loc).
          record { sends = (o_at i).sends; outs = shown; births = born } in
          let at_i : MoveOf rules_of seen t from.number into.number q
          (remove q.loc (drop_request i from)) (o_at i).site (carried a.outs []) rules atoms n =
          subst (λ (j : AtomId). MoveOf rules_of seen t from.number into.number q
          (remove q.loc (drop_request j from)) (o_at j).site
          (record { sends = (o_at j).sends; outs = a.outs; births = [] }) rules atoms n) id done in
          let at_left = subst (λ (v : Site). MoveOf rules_of seen t from.number into.number q v
          (o_at i).site (carried a.outs []) rules atoms n) (sym leaves_it) at_i in
          let ans = by_new_tree u refl in
          let at_new = subst (λ (v : Site).
          MoveOf rules_of seen t from.number into.number q left v (carried a.outs []) rules atoms n)
          (sym ans.site) at_left in
          let at_outs =
          subst (λ (shown : List Out). MoveOf rules_of seen t from.number into.number q left new
          (carried shown []) rules atoms n) (sym ans.outs) at_new in
          record {
            sends = (o_at i).sends;
            spelled = ans.sends;
            move = subst (λ (born : List Loc). MoveOf rules_of seen t from.number into.number q left
                new (carried e.outs born) rules atoms n) (sym ans.births) at_outs;
          }
        where
          absurd_of : {c : Bool} → c ≡ true → c ≡ false → ⊥
          absurd_of f g = cc
