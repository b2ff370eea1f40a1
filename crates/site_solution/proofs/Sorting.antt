-- What is posted, sorted from the left.
use Rattle.std.proofs.Common.{◌≡◌, List, [], ◌∷◌, ◌++◌, true, false, cond, sym, ap, ◌∙◌, subst}
use Rattle.std.proofs.Common.{append-nil}
use Rattle.chem_model.specs.declared.name.Loc.{Loc}
use Rattle.wire_packet.specs.MessageFacts.{MessageParts}
use Rattle.wire_packet.specs.declared.packet.Flight.{Flight}
use Rattle.wire_packet.specs.declared.packet.Waiting.{Waiting}
use Rattle.wire_packet.specs.GroupFacts.{RequestParts}
use Rattle.loc_tree.specs.Tree.{Tree}
use Rattle.net_laws.specs.Net.{Addressed, among, address}
use Rattle.net_laws.specs.Posting.{Posted, a_message}
use Rattle.site_solution.specs.Answers.{IsFlightOf, AreFlights}
use Rattle.site_solution.specs.inside.Split.{waits_in, asked_in, away_from}
use Rattle.site_solution.specs.inside.Leave.{Sorting}
use Rattle.site_shelves.proofs.LaidAll.{append-one}

module _ (t : Tree) (ls : List Loc) (whole : List Posted) where
  pub sort-waits :
      (w : Waiting) (left : List Posted) (ws : List Waiting) (qs : List RequestParts)
      (fs : List Flight) → among ls w.loc ≡ true
      → Sorting t ls (a_message w.loc w.msg ∷ left) whole ws qs fs
      → Sorting t ls left whole (ws ++ w ∷ []) qs fs
  sort-waits w left ws qs fs here s = record {
    waiting_are = append-one ws w (waits_in ls left)
        ∙ sym (ap (λ b.
        ws ++ cond b (record { loc = w.loc; msg = w.msg } ∷ waits_in ls left) (waits_in ls left))
        here) ∙ s.waiting_are;
    requests_are = s.requests_are;
    flights_are = λ gs h. s.flights_are gs (subst (λ (ps : List Addressed). AreFlights ps gs)
        (sym (ap (λ b. cond b (away_from t ls left)
        (record { target = address t w.loc; msg = w.msg } ∷ away_from t ls left)) here)) h);
  }

  pub sort-away :
      (l : Loc) (m : MessageParts) (f : Flight) (left : List Posted) (ws : List Waiting)
      (qs : List RequestParts) (fs : List Flight) → among ls l ≡ false
      → IsFlightOf (record { target = address t l; msg = m }) f
      → Sorting t ls (a_message l m ∷ left) whole ws qs fs
      → Sorting t ls left whole ws qs (fs ++ f ∷ [])
  sort-away l m f left ws qs fs away is s = record {
    waiting_are = sym
        (ap (λ b. ws ++ cond b (record { loc = l; msg = m } ∷ waits_in ls left) (waits_in ls left))
        away) ∙ s.waiting_are;
    requests_are = s.requests_are;
    flights_are = λ gs h. subst (λ (ys : List Flight). AreFlights (away_from t ls whole) ys)
        (sym (append-one fs f gs))
        (s.flights_are (f ∷ gs) (subst (λ (ps : List Addressed). AreFlights ps (f ∷ gs))
        (sym (ap (λ b. cond b (away_from t ls left)
        (record { target = address t l; msg = m } ∷ away_from t ls left)) away)) (is, h)));
  }

  pub sort-begin :
      (left : List Posted) (ws : List Waiting) (qs : List RequestParts) (fs : List Flight)
      → left ≡ whole → ws ≡ [] → qs ≡ [] → fs ≡ [] → Sorting t ls left whole ws qs fs
  sort-begin left ws qs fs all w q f = record {
    waiting_are = ap (λ (xs : List Waiting). xs ++ waits_in ls left) w ∙ ap (waits_in ls) all;
    requests_are = ap (λ (xs : List RequestParts). xs ++ asked_in left) q ∙ ap asked_in all;
    flights_are = λ gs h. subst (λ (xs : List Flight). AreFlights (away_from t ls whole) (xs ++ gs))
        (sym f) (subst (λ (ps : List Posted). AreFlights (away_from t ls ps) gs) all h);
  }

  pub sort-end :
      (left : List Posted) (ws : List Waiting) (qs : List RequestParts) (fs : List Flight)
      → left ≡ [] → Sorting t ls left whole ws qs fs
      → (ws ≡ waits_in ls whole) × (qs ≡ asked_in whole) × AreFlights (away_from t ls whole) fs
  sort-end left ws qs fs none s =
      let e : Sorting t ls [] whole ws qs fs =
      subst (λ (ps : List Posted). Sorting t ls ps whole ws qs fs) none s in (
        sym (append-nil ws) ∙ e.waiting_are,
        sym (append-nil qs) ∙ e.requests_are,
        subst (AreFlights (away_from t ls whole)) (append-nil fs) (e.flights_are [] tt),
      )
