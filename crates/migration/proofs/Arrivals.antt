-- What a location's arrival makes: where the target is alive its continuation, and else nothing.
use Rattle.std.proofs.Common.{◌≡◌, ℕ, Bool, true, false, List, [], ◌∷◌, ◌++◌, Option, Some, None}
use Rattle.std.proofs.Common.{refl, sym, ap, subst, ◌∙◌}
use Rattle.std.proofs.lemmas.List.{append-nil}
use Rattle.chem_model.specs.declared.name.Loc.{Loc}
use Rattle.chem_model.specs.declared.name.Name.{Name}
use Rattle.chem_model.specs.Pour.{nothing_made}
use Rattle.wire_packet.specs.MessageFacts.{MessageParts}
use Rattle.wire_packet.specs.declared.packet.Waiting.{Waiting}
use Rattle.wire_packet.specs.GroupFacts.{RequestParts}
use Rattle.env_store.specs.CodeParts.{CodeParts}
use Rattle.loc_tree.specs.Tree.{Tree}
use Rattle.net_laws.specs.Site.{Told, Group, Site}
use Rattle.net_laws.specs.Holding.{in_groups, put_in, put, put_all, new_group, lay, lay_all, ask}
use Rattle.net_laws.specs.Holding.{ask_all, host_all}
use Rattle.net_laws.specs.Meeting.{sent_here}
use Rattle.net_laws.specs.Moves.{continuation_made, moved_made}
use Rattle.net_laws.specs.Parcels.{Load, take_in}
use Rattle.site_solution.specs.Answers.{AreFlights, Answers}
use Rattle.site_solution.specs.Draws.{CanDraw}
use Rattle.site_solution.specs.InCode.{is_in_code}
use Rattle.site_solution.specs.InTree.{is_in_tree}
use Rattle.site_solution.specs.Staying.{StillFits, HasReceived}
use Rattle.site_solution.specs.declared.effects.Effects.{Effects}

-- ---- a site that takes a location in draws no number

put_in_made : (o : Option (List Group)) (l : Loc) (m : MessageParts) (s : Site)
    → (put_in o l m s).made ≡ s.made
put_in_made None l m s = refl
put_in_made (Some gs) l m s = refl

put_all_made : (ws : List Waiting) (s : Site) → (put_all ws s).made ≡ s.made
put_all_made [] s = refl
put_all_made (w ∷ ws) s =
    put_all_made ws (put w.loc w.msg s) ∙ put_in_made (in_groups s.groups w.msg) w.loc w.msg s

lay_all_made : (ds : List Told) (s : Site) → (lay_all ds s).made ≡ s.made
lay_all_made [] s = refl
lay_all_made (d ∷ ds) s = lay_all_made ds (lay d s)
    ∙ put_all_made s.stuck (record s { groups = s.groups ++ new_group d ∷ []; stuck = [] })

ask_all_made : (qs : List RequestParts) (s : Site) → (ask_all qs s).made ≡ s.made
ask_all_made [] s = refl
ask_all_made (q ∷ qs) s = ask_all_made qs (ask q s)

taken_made : (p : Load) (s : Site) → (take_in p s).made ≡ s.made
taken_made p s =
    let hosting = host_all (p.loc ∷ []) s in
    ask_all_made p.requests (put_all p.waiting (lay_all p.groups hosting))
    ∙ put_all_made p.waiting (lay_all p.groups hosting) ∙ lay_all_made p.groups hosting

nothing_sent : (t : Tree) (k : ℕ) (s : Site) → s.made ≡ k
    → (sent_here t (nothing_made k) s).site ≡ s
nothing_sent t k s same = λ j. record {
  number = s.number;
  made = sym same j;
  locs = append-nil s.locs j;
  groups = s.groups;
  stuck = s.stuck;
  requests = s.requests;
}

-- ---- the two arrivals

module _ (t : Tree) (lives : Bool) (seen : List ℕ) (cont : Name) (p : Load) (s new : Site)
    (e : Effects) where
  pub goes_in : lives ≡ true
      → (let a = continuation_made seen s.number p.loc s.made cont in
      Answers (sent_here t a (take_in p s)) a.outs [] new e)
      → let a = moved_made lives seen s.number p.loc s.made cont in
      Answers (sent_here t a (take_in p s)) a.outs [] new e
  goes_in alive answers =
      subst (λ (u : Bool). let a = moved_made u seen s.number p.loc s.made cont in
      Answers (sent_here t a (take_in p s)) a.outs [] new e) (sym alive) answers

  pub falls_in : lives ≡ false → new ≡ take_in p s
      → e ≡ record { sends = []; outs = []; births = [] }
      → let a = moved_made lives seen s.number p.loc s.made cont in
      Answers (sent_here t a (take_in p s)) a.outs [] new e
  falls_in dead is none =
      let nothing : Answers (sent_here t (nothing_made s.made) (take_in p s)) [] [] new e = record {
        site = is ∙ sym (nothing_sent t s.made (take_in p s) (taken_made p s));
        sends = subst (λ (v : Effects). AreFlights [] v.sends) (sym none) tt;
        outs = ap (λ (v : Effects). v.outs) none;
        births = ap (λ (v : Effects). v.births) none;
      } in
      subst (λ (u : Bool). let a = moved_made u seen s.number p.loc s.made cont in
      Answers (sent_here t a (take_in p s)) a.outs [] new e) (sym dead) nothing

pub fits_received : (c : CodeParts) (t u : Tree) (s new : Site) → StillFits c t s u new
    → is_in_tree t s ≡ true → is_in_code c t s ≡ true → CanDraw t s → HasReceived c u new
fits_received c t u s new still there coded draws = record {
  all_there = still.in_tree there;
  in_code = still.in_code coded;
  drawn = (still.draws draws).drawn;
  fresh = (still.draws draws).fresh;
}
