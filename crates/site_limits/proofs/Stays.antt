-- What stands within limits stands within wider ones.
use Rattle.std.proofs.Common.{◌≡◌, ℕ, ◌≤◌, List, [], ◌∷◌, Bool, true, refl, length}
use Rattle.std.proofs.Common.{arith, ltb-true, lt-ltb}
use Rattle.std.specs.Prelude.{◌&&◌}
use Rattle.std.specs.List.{list_all}
use Rattle.std.proofs.lemmas.Bool.{and_parts, and_from}
use Rattle.std.proofs.lemmas.Bool.Decides.{nat_tests}
use Rattle.chem_model.specs.declared.name.Loc.{Loc}
use Rattle.chem_model.specs.declared.name.Name.{Name}
use Rattle.chem_model.specs.declared.name.Name.TheVariants as name
use Rattle.chem_model.specs.declared.event.AtomId.{AtomId}
use Rattle.wire_packet.specs.MessageFacts.{MessageParts}
use Rattle.wire_packet.specs.GroupFacts.{RequestParts}
use Rattle.wire_packet.specs.declared.packet.Ask.{Ask}
use Rattle.wire_packet.specs.declared.packet.Ask.TheVariants as request
use Rattle.net_laws.specs.Site.{Told}
use Rattle.site_shelves.specs.Named.{name_in, names_in, message_in, ask_in, request_in}
use Rattle.site_shelves.specs.Draws.{is_drawn, are_drawn, told_drawn}
use Rattle.site_limits.specs.Limits.{Limits, is_before, message_within, request_within}
use Rattle.site_limits.specs.Limits.{loc_within, told_within}
use Rattle.site_limits.proofs.Learned.{Stays}

-- ---- lists and numbers

pub all-weaker : {X : Type 0} (p q : X → Bool) (xs : List X) → ((x : X) → p x ≡ true → q x ≡ true)
    → list_all p xs ≡ true → list_all q xs ≡ true
all-weaker p q [] f a = refl
all-weaker p q (x ∷ xs) f a =
    let both = and_parts (p x) (list_all p xs) a in
    and_from (q x) (list_all q xs) (f x both.0) (all-weaker p q xs f both.1)

pub drawn-later : (i k n s j : ℕ) → k ≤ n → is_drawn i k s j ≡ true → is_drawn i n s j ≡ true
drawn-later i k n s j later drawn = grind (arith, nat_tests)

range_later : (i k n s j many : ℕ) → k ≤ n → are_drawn i k s j many ≡ true
    → are_drawn i n s j many ≡ true
range_later i k n s j many later drawn = grind (arith, nat_tests)

pub told_later : (i k n : ℕ) (d : Told) → k ≤ n → told_drawn i k d ≡ true → told_drawn i n d ≡ true
told_later i k n d later drawn =
    let both = and_parts (are_drawn i k d.inst.chans.site d.inst.chans.k (length d.counts))
    (are_drawn i k d.inst.rules.site d.inst.rules.k d.guards) drawn in
    and_from (are_drawn i n d.inst.chans.site d.inst.chans.k (length d.counts))
    (are_drawn i n d.inst.rules.site d.inst.rules.k d.guards)
    (range_later i k n d.inst.chans.site d.inst.chans.k (length d.counts) later both.0)
    (range_later i k n d.inst.rules.site d.inst.rules.k d.guards later both.1)

-- ---- names, by a weaker test

module _ (known there : Loc → Bool) (weaker : (l : Loc) → known l ≡ true → there l ≡ true) where
  pub name-weaker : (n : Name) → name_in known n ≡ true → name_in there n ≡ true
  name-weaker (name.Seen i) h = refl
  name-weaker (name.Place a) h = weaker a h
  name-weaker (name.Chan s k a) h = weaker a h
  name-weaker (name.Num n) h = refl
  name-weaker (name.Op i) h = refl

  pub names-weaker : (ns : List Name) → names_in known ns ≡ true → names_in there ns ≡ true
  names-weaker ns h = all-weaker (name_in known) (name_in there) ns name-weaker h

  pub message-weaker : (m : MessageParts) → message_in known m ≡ true → message_in there m ≡ true
  message-weaker m h =
      let both = and_parts (name_in known m.on) (names_in known m.args) h in
      and_from (name_in there m.on) (names_in there m.args) (name-weaker m.on both.0)
      (names-weaker m.args both.1)

  both-weaker : (b k : Name) → name_in known b && name_in known k ≡ true
      → name_in there b && name_in there k ≡ true
  both-weaker b k h =
      let both = and_parts (name_in known b) (name_in known k) h in
      and_from (name_in there b) (name_in there k) (name-weaker b both.0) (name-weaker k both.1)

  pub ask-weaker : (a : Ask) → ask_in known a ≡ true → ask_in there a ≡ true
  ask-weaker (request.Go b k) h = both-weaker b k h
  ask-weaker (request.Fail b k) h = both-weaker b k h
  ask-weaker request.Halt h = refl

-- ---- the limits grow

pub name-stays : (n : Name) → Stays (λ d. name_in d.known n ≡ true)
name-stays n a b wider h = name-weaker a.known b.known wider.known n h

pub names-stay : (ns : List Name) → Stays (λ d. names_in d.known ns ≡ true)
names-stay ns a b wider h = names-weaker a.known b.known wider.known ns h

pub before-stays : (i : AtomId) → Stays (λ d. is_before d i ≡ true)
before-stays i a b wider h = lt-ltb i.k (b.after i.site)
    (omega (arith, ltb-true i.k (a.after i.site) h, wider.after i.site))

pub message-stays : (m : MessageParts) → Stays (λ d. message_within d m ≡ true)
message-stays m a b wider h =
    let both = and_parts (is_before a m.id) (message_in a.known m) h in
    and_from (is_before b m.id) (message_in b.known m) (before-stays m.id a b wider both.0)
    (message-weaker a.known b.known wider.known m both.1)

pub request-stays : (q : RequestParts) → Stays (λ d. request_within d q ≡ true)
request-stays q a b wider h =
    let both = and_parts (is_before a q.id) (request_in a.known q) h in
    and_from (is_before b q.id) (request_in b.known q) (before-stays q.id a b wider both.0)
    (ask-weaker a.known b.known wider.known q.ask both.1)

pub loc-stays : (number : ℕ) (l : Loc) → Stays (λ d. loc_within d number l ≡ true)
loc-stays number l a b wider h = drawn-later number a.drawn b.drawn l.site l.k wider.drawn h

pub numbers-stay : (number : ℕ) (d : Told) → Stays (λ e. told_drawn number e.drawn d ≡ true)
numbers-stay number d a b wider h = told_later number a.drawn b.drawn d wider.drawn h

pub told-stays : (number : ℕ) (d : Told) → Stays (λ e. told_within e number d ≡ true)
told-stays number d a b wider h =
    let both = and_parts (told_drawn number a.drawn d)
    (names_in a.known d.inst.env && a.shaped d) h in
    let rest = and_parts (names_in a.known d.inst.env) (a.shaped d) both.1 in
    and_from (told_drawn number b.drawn d) (names_in b.known d.inst.env && b.shaped d)
    (numbers-stay number d a b wider both.0)
    (and_from (names_in b.known d.inst.env) (b.shaped d)
    (names-stay d.inst.env a b wider rest.0) (wider.shaped d rest.1))

-- of lists, where it does of members
pub list-stays : {X : Type 0} (P : Limits → X → Bool) → ((x : X) → Stays (λ d. P d x ≡ true))
    → (xs : List X) → Stays (λ d. list_all (P d) xs ≡ true)
list-stays P stays xs a b wider h = all-weaker (P a) (P b) xs (λ x e. stays x a b wider e) h
