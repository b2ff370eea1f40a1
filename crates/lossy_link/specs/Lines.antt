-- What passed between sites: a line for each ordered pair of sites that sent a packet. The
-- receiver's next number is how many packets of the pair it was given.
use Rattle.std.specs.Prelude.{◌≡◌, ℕ, ◌+◌, ◌-◌, ◌≤◌, ◌<◌, ◌==◌, List, [], ◌∷◌, ◌++◌, length}
use Rattle.std.specs.Prelude.{take, drop, Bool, ◌&&◌, cond}
use Rattle.chem_model.specs.Each.{Each}
use Rattle.net_core.specs.declared.drained.FlightFrom.{FlightFrom}
use Rattle.lossy_link.specs.declared.line.Line.{Line}

-- a packet from one site to another
abbrev pub flight_from : ℕ → ℕ → List ℕ → FlightFrom
flight_from f t bytes = record { from = f; flight = record { target = t; bytes = bytes } }

abbrev pub is_between : ℕ → ℕ → ℕ → ℕ → Bool
is_between f t g u = (f == g) && (t == u)

-- the line of a pair before it sent a packet
abbrev pub no_line : ℕ → ℕ → Line
no_line f t = record { from = f; into = t; history = record { sent = []; handed = [] }; acked = 0 }

-- the line of a pair
abbrev pub line_of : ℕ → ℕ → List Line → Line
line_of f t [] = no_line f t
line_of f t (l ∷ ls) = cond (is_between f t l.from l.into) l (line_of f t ls)

-- the lines with this one in the place of that of its pair; behind all others, where it is the
-- pair's first
abbrev pub with_line : Line → List Line → List Line
with_line l [] = l ∷ []
with_line l (k ∷ ks) = cond (is_between l.from l.into k.from k.into) (l ∷ ks) (k ∷ with_line l ks)

-- ---- what happens to a line

abbrev pub sent_more : Line → List ℕ → Line
sent_more l bytes = record l { history = record l.history { sent = l.history.sent ++ bytes ∷ [] } }

abbrev pub handed_more : Line → List ℕ → Line
handed_more l bytes =
    record l { history = record l.history { handed = l.history.handed ++ bytes ∷ [] } }

-- the greater of two numbers
abbrev pub raised : ℕ → ℕ → ℕ
raised old n = old + (n - old)

abbrev pub acked_more : Line → ℕ → Line
acked_more l n = record l { acked = raised l.acked n }

-- a packet gets the next number of its pair
abbrev pub with_sent : FlightFrom → List Line → List Line
with_sent p ls =
    with_line (sent_more (line_of p.from p.flight.target ls) p.flight.bytes) ls

abbrev pub all_sent : List FlightFrom → List Line → List Line
all_sent [] ls = ls
all_sent (p ∷ ps) ls = all_sent ps (with_sent p ls)

-- the receiver was given a packet of the pair
abbrev pub with_handed : ℕ → ℕ → List ℕ → List Line → List Line
with_handed f t bytes ls = with_line (handed_more (line_of f t ls) bytes) ls

-- the pair's packets below this number are acknowledged
abbrev pub with_acked : ℕ → ℕ → ℕ → List Line → List Line
with_acked f t n ls = with_line (acked_more (line_of f t ls) n) ls

-- the packets that the receiver was not given yet
abbrev pub undelivered : Line → List (List ℕ)
undelivered l = drop (length l.history.handed) l.history.sent

-- ---- what is kept

-- what the receiver was given is the front of what was sent, and no more is acknowledged
pub record IsFine (l : Line) : Type 0 where
  pub front : l.history.handed ≡ take (length l.history.handed) l.history.sent
  pub within : length l.history.handed ≤ length l.history.sent
  pub acked : l.acked ≤ length l.history.handed

-- so it is of each pair
abbrev pub AreFine : List Line → Type 0
AreFine ls = (f t : ℕ) → IsFine (line_of f t ls)

-- each line has a packet that was sent
abbrev pub AreUsed : List Line → Type 0
AreUsed ls = Each (λ (l : Line). 0 < length l.history.sent) ls

-- of each pair the receiver was given the front of what was sent, each packet once, as many as its
-- next number says
abbrev pub AreInOrder : List Line → Type 0
AreInOrder ls =
    (f t : ℕ) → (line_of f t ls).history.handed
    ≡ take (length (line_of f t ls).history.handed) (line_of f t ls).history.sent
