-- A network of sites, and the numbered solution for which it stands.
use Rattle.std.specs.Prelude.{◌≡◌, ℕ, zero, suc, ◌+◌, List, [], ◌∷◌, ◌++◌, Bool, true, ◌||◌, false}
use Rattle.std.specs.Prelude.{Option, Some, None, slice_get, slice_set, ◌↔◌, ◌<◌}
use Rattle.chem_model.specs.declared.name.Loc.{Loc}
use Rattle.chem_model.specs.declared.name.Name.{Name}
use Rattle.chem_model.specs.declared.event.Out.{Out}
use Rattle.chem_model.specs.Bag.{Bag, one, ◌⊕◌, nothing, bag}
use Rattle.chem_model.specs.declared.numbered.NumberedRule.{NumberedRule}
use Rattle.chem_model.specs.declared.numbered.NumberedAtom.{NumberedAtom}
use Rattle.chem_model.specs.declared.numbered.Numbered.{Numbered}
use Rattle.chem_model.specs.Solution.{same_loc}
use Rattle.chem_model.specs.Opening.{root_of}
use Rattle.chem_model.specs.Sound.{IsSound}
use Rattle.wire_packet.specs.MessageFacts.{MessageParts}
use Rattle.wire_packet.specs.GroupFacts.{GroupParts}
use Rattle.loc_tree.specs.Tree.{Tree, spot, number_in, with_birth}
use Rattle.loc_tree.specs.Places.{IsTreeOf}
use Rattle.net_laws.specs.Site.{Site, coded_rule, coded_atom, message_atom, atoms_of, rules_held}
use Rattle.chem_model.specs.declared.name.Name.TheVariants as name

-- ---- networks

-- a message under way, with the number of the site to which it goes
pub record Addressed : Type 0 where
  pub target : ℕ
  pub msg : MessageParts

-- the version of the program, how many arguments each declared observed name has, the sites by
-- their numbers, where locations are, the observables so far, and the messages under way
pub record Net : Type 0 where
  pub version : ℕ
  pub seen : List ℕ
  pub sites : List Site
  pub tree : Tree
  pub trace : List Out
  pub packets : List Addressed

-- the home of a channel; no other name has one
abbrev pub home_or : Loc → Name → Loc
home_or l (name.Seen i) = l
home_or l (name.Place a) = l
home_or l (name.Chan s k h) = h
home_or l (name.Num n) = l
home_or l (name.Op i) = l

abbrev pub IsChannel : Name → Type 0
IsChannel (name.Seen i) = ⊥
IsChannel (name.Place a) = ⊥
IsChannel (name.Chan s k h) = Unit {0}
IsChannel (name.Num n) = ⊥
IsChannel (name.Op i) = ⊥

-- what is under way is a message on a channel, to one of so many sites
abbrev pub IsOnItsWay : ℕ → Addressed → Type 0
IsOnItsWay count p = IsChannel p.msg.on × (p.target < count)

-- the number of the site that hosts a location
abbrev pub or_first : Option ℕ → ℕ
or_first None = 0
or_first (Some i) = i

abbrev pub address : Tree → Loc → ℕ
address t l = or_first (number_in (spot t l))

-- ---- what the parts of a network stand for

-- a message under way stands at the home of its channel, wherever it is
abbrev pub under_way : List Addressed → Bag NumberedAtom
under_way [] = nothing
under_way (p ∷ ps) =
    one coded_atom (message_atom (home_or (root_of p.target) p.msg.on) p.msg) ⊕ under_way ps

-- how many numbers each site has made
abbrev pub made_of : List Site → List ℕ
made_of [] = []
made_of (s ∷ ss) = s.made ∷ made_of ss

abbrev pub all_atoms : List Site → Bag NumberedAtom
all_atoms [] = nothing
all_atoms (s ∷ ss) = atoms_of s ⊕ all_atoms ss

abbrev pub among : List Loc → Loc → Bool
among [] l = false
among (x ∷ xs) l = same_loc x l || among xs l

-- the site has this number, and hosts exactly the locations to which the tree gives it
pub record Hosts (t : Tree) (i : ℕ) (s : Site) : Type 0 where
  pub number : s.number ≡ i
  pub locs : (l : Loc) → (among s.locs l ≡ true) ↔ (number_in (spot t l) ≡ Some i)

abbrev pub AllHost : Tree → List Site → Type 0
AllHost t sites = (i : ℕ) (s : Site) → slice_get sites i ≡ Some s → Hosts t i s

module _ (rules_of : GroupParts → List NumberedRule) where
  abbrev pub all_rules : List Site → Bag NumberedRule
  all_rules [] = nothing
  all_rules (s ∷ ss) = rules_held rules_of s ⊕ all_rules ss

  -- ---- a network and a numbered solution

  -- version, tree, counts and trace are those of the solution; its rules are those of all sites,
  -- and its atoms those of all sites together with the messages under way, each counted once
  pub record Agrees (net : Net) (n : Numbered) : Type 0 where
    pub version : n.version ≡ net.version
    pub seen : n.seen ≡ net.seen
    pub counts : n.counts ≡ made_of net.sites
    pub tree : IsTreeOf net.tree n.places
    pub rules : (r : NumberedRule) → bag coded_rule n.rules r ≡ all_rules net.sites r
    pub atoms :
        (a : NumberedAtom)
        → bag coded_atom n.atoms a ≡ all_atoms net.sites a + under_way net.packets a
    pub trace : n.trace ≡ net.trace

  -- the network stands for a sound solution, and each site hosts what the tree gives it
  pub record Stands (net : Net) (n : Numbered) : Type 0 where
    pub sound : IsSound n
    pub agrees : Agrees net n
    pub hosts : AllHost net.tree net.sites

-- ---- what an event changes

-- what a call of a site hands out: messages for other sites, observables, and the locations that
-- were born
pub record Effects : Type 0 where
  pub sends : List Addressed
  pub outs : List Out
  pub births : List Loc

-- the tree with locations that a site has born
abbrev pub with_births : Tree → ℕ → List Loc → Tree
with_births t i [] = t
with_births t i (l ∷ ls) = with_births (with_birth t l i) i ls

-- the messages under way but the one at this index
abbrev pub without_packet : ℕ → List Addressed → List Addressed
without_packet f [] = []
without_packet zero (p ∷ ps) = ps
without_packet (suc f) (p ∷ ps) = p ∷ without_packet f ps

-- the network with these sites, and what the site i hands out
abbrev pub with_effects : Net → List Site → ℕ → Effects → Net
with_effects net sites i e = record {
  version = net.version;
  seen = net.seen;
  sites = sites;
  tree = with_births net.tree i e.births;
  trace = net.trace ++ e.outs;
  packets = net.packets ++ e.sends;
}

-- the network with one site changed, and what that site hands out
abbrev pub with_site : Net → ℕ → Site → Effects → Net
with_site net i s e = with_effects net (slice_set net.sites i s) i e
