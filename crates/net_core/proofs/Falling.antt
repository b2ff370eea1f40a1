-- A delivery leaves one delivery less.
use Rattle.std.proofs.Common.{◌≡◌, ℕ, zero, suc, ◌+◌, List, [], ◌∷◌, ◌++◌, Option, Some, None, Bool}
use Rattle.std.proofs.Common.{true, false, cond, refl, sym, ap, ◌∙◌, subst, arith, length}
use Rattle.std.proofs.Common.{slice_get, ◌==◌, eq-eqb, eqb-true, length-append}
use Rattle.std.specs.Prelude.{not, slice_set}
use Rattle.chem_model.specs.declared.name.Loc.{Loc}
use Rattle.chem_model.specs.declared.name.Name.{Name}
use Rattle.chem_model.specs.declared.name.Name.TheVariants as name
use Rattle.chem_model.specs.declared.numbered.NumberedRule.{NumberedRule}
use Rattle.chem_model.specs.declared.numbered.Numbered.{Numbered}
use Rattle.chem_model.specs.Solution.{is_there}
use Rattle.chem_model.specs.Opening.{root_of}
use Rattle.wire_packet.specs.MessageFacts.{MessageParts}
use Rattle.wire_packet.specs.GroupFacts.{GroupParts}
use Rattle.loc_tree.specs.declared.tree.Spot.{Spot}
use Rattle.loc_tree.specs.Tree.{Tree, spot, number_in, is_root}
use Rattle.loc_tree.specs.Places.{standing_in}
use Rattle.net_laws.specs.Site.{Site}
use Rattle.net_laws.specs.Net.{Addressed, Net, Stands, among, home_or, IsChannel, address, or_first}
use Rattle.net_laws.specs.Net.{IsOnItsWay, without_packet}
use Rattle.net_laws.specs.Holding.{put}
use Rattle.net_laws.proofs.Below.{packet_there}
use Rattle.net_laws.proofs.Holds.{each_get}
use Rattle.net_core.specs.Falling.{is_misdirected, misdirected, deliveries_left, DeliveriesFall}

without_length : (ps : List Addressed) (f : ℕ) (p : Addressed) → slice_get ps f ≡ Some p
    → length ps ≡ length (without_packet f ps) + 1
without_length [] f p e = cc
without_length (q ∷ ps) zero p e = omega arith
without_length (q ∷ ps) (suc f) p e = omega (arith, without_length ps f p e)

without_misdirected : (t : Tree) (ps : List Addressed) (f : ℕ) (p : Addressed)
    → slice_get ps f ≡ Some p
    → misdirected t ps ≡ misdirected t (without_packet f ps) + cond (is_misdirected t p) 1 0
without_misdirected t [] f p e = cc
without_misdirected t (q ∷ ps) zero p e =
    let same : q ≡ p = cc in
    omega (arith, ap (λ (v : Addressed). cond (is_misdirected t v) 1 0 + misdirected t ps) same)
without_misdirected t (q ∷ ps) (suc f) p e = omega (arith, without_misdirected t ps f p e)

as_number : (a b : Bool) → a ≡ b → ◌≡◌ {A = ℕ} (cond a 1 0) (cond b 1 0)
as_number true true e = refl
as_number true false e = cc
as_number false true e = cc
as_number false false e = refl

misdirected_append : (t : Tree) (ps qs : List Addressed)
    → misdirected t (ps ++ qs) ≡ misdirected t ps + misdirected t qs
misdirected_append t [] qs = omega arith
misdirected_append t (p ∷ ps) qs = omega (arith, misdirected_append t ps qs)

home_is : (l k : Loc) (n : Name) → IsChannel n → home_or l n ≡ home_or k n
home_is l k (name.Seen i) h = absurd h
home_is l k (name.Place a) h = absurd h
home_is l k (name.Num n) h = absurd h
home_is l k (name.Op i) h = absurd h
home_is l k (name.Chan s j a) h = refl

module _ (rules_of : GroupParts → List NumberedRule) (net : Net) (n : Numbered)
    (stands : Stands rules_of net n) where
  -- a message is misdirected exactly where its target doesn't host its home
  directed : (f : ℕ) (p : Addressed) (s : Site) → slice_get net.packets f ≡ Some p
      → slice_get net.sites p.target ≡ Some s → (u : Bool)
      → among s.locs (home_or (root_of p.target) p.msg.on) ≡ u → is_misdirected net.tree p ≡ not u
  directed f p s flies at true c =
      let number = ((stands.hosts p.target s at).locs (home_or (root_of p.target) p.msg.on)).0 c in
      ap not (eq-eqb (address net.tree (home_or (root_of p.target) p.msg.on))
      p.target (ap or_first number))
  directed f p s flies at false c =
      ap not (go (address net.tree (home_or (root_of p.target) p.msg.on) == p.target) refl)
    where
      home : Loc
      home = home_or (root_of p.target) p.msg.on

      hosted : (o : Option Spot) → spot net.tree home ≡ o
          → is_there (standing_in (is_root net.tree home) o) ≡ true
          → or_first (number_in o) ≡ p.target → number_in (spot net.tree home) ≡ Some p.target
      hosted None e there same = cc
      hosted (Some sp) e there same = ap number_in e ∙ ap (λ k. Some k) same

      go : (u : Bool) → (address net.tree home == p.target) ≡ u → u ≡ false
      go true e =
          let same : address net.tree home ≡ p.target =
          eqb-true (address net.tree home) p.target e in
          let there : is_there (standing_in (is_root net.tree home) (spot net.tree home)) ≡ true =
          ap is_there (sym (stands.agrees.tree.same home))
          ∙ packet_there rules_of net n stands f p flies in
          let here : among s.locs home ≡ true =
          ((stands.hosts p.target s at).locs home).1
          (hosted (spot net.tree home) refl there same) in
          cc
      go false e = refl

pub deliveries_fall : DeliveriesFall
deliveries_fall rules_of net new n f stands ways delivers =
    subst (λ (w : Net). deliveries_left net ≡ deliveries_left w + 1) (sym delivers.new_is)
    (go (among s.locs home) refl)
  where
    p : Addressed
    p = delivers.packet

    s : Site
    s = delivers.site

    home : Loc
    home = home_or (root_of delivers.packet.target) delivers.packet.msg.on

    others : List Addressed
    others = without_packet f net.packets

    on_channel : IsChannel p.msg.on
    on_channel =
        (each_get (IsOnItsWay (length net.sites)) net.packets f p delivers.packet_is ways).0

    there : (t : Tree) (q : Addressed) → q.msg ≡ p.msg → address t home ≡ q.target
        → is_misdirected t q ≡ false
    there t q m to =
        let at : home_or (root_of q.target) q.msg.on ≡ home =
        ap (λ (x : MessageParts). home_or (root_of q.target) x.on) m
        ∙ home_is (root_of q.target) (root_of p.target) p.msg.on on_channel in
        ap not
        (eq-eqb (address t (home_or (root_of q.target) q.msg.on)) q.target (ap (address t) at ∙ to))

    go : (u : Bool) → among s.locs home ≡ u
        → deliveries_left net
        ≡ deliveries_left (cond u
        (record net { sites = slice_set net.sites p.target (put home p.msg s); packets = others })
        (record net {
          packets =
              others ++ record { target = address net.tree home; msg = p.msg } ∷ [];
        })) + 1
    go true c = omega (
      arith,
      without_length net.packets f p delivers.packet_is,
      without_misdirected net.tree net.packets f p delivers.packet_is,
      as_number (is_misdirected net.tree p) false
          (directed rules_of net n stands f p s delivers.packet_is delivers.site_is true c),
    )
    go false c =
        let on : Addressed = record { target = address net.tree home; msg = p.msg } in
        omega (
          arith,
          without_length net.packets f p delivers.packet_is,
          without_misdirected net.tree net.packets f p delivers.packet_is,
          as_number (is_misdirected net.tree p) true
              (directed rules_of net n stands f p s delivers.packet_is delivers.site_is false c),
          length-append others (on ∷ []),
          misdirected_append net.tree others (on ∷ []),
          as_number (is_misdirected net.tree on) false (there net.tree on refl refl),
        )
