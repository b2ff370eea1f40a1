-- The text of the ring of n sites. Numbers are decimal without leading zeros.
use Rattle.std.specs.Prelude.{ℕ, ◌+◌, ◌-◌, ◌%◌, List, [], ◌++◌, cond}
use Rattle.std.specs.Prelude.{nat_eq, replicate, flat_map, codes, decimal}
use Rattle.std.specs.List.{range_with_len, join_by}

-- ---- the agent

-- the move to site q: `go(sq, kq)`
abbrev pub go_text : ℕ → List ℕ
go_text q = codes "go(s" ++ decimal q ++ codes ", k" ++ decimal q ++ codes ")"

-- the rule at site j, which goes on to the next site: ` and kj() => out(sj) | go(sq, kq)` with q =
-- (j + 1) mod n
abbrev pub rule_text : ℕ → ℕ → List ℕ
rule_text n j =
    codes " and k" ++ decimal j ++ codes "() => out(s" ++ decimal j ++ codes ") | "
    ++ go_text ((j + 1) % n)

-- the rules at the sites from 1 to n - 1
abbrev pub rules_text : ℕ → List ℕ
rules_text n = flat_map (rule_text n) (range_with_len 1 (n - 1))

-- the rule at site 0, those at the others, and the first move
abbrev pub agent_text : ℕ → List ℕ
agent_text n =
    codes " and m[ k0() => out(s0)" ++ rules_text n ++ codes " : " ++ go_text (1 % n) ++ codes " ]"

-- the agent stands at site 0
abbrev pub agent_at : ℕ → ℕ → List ℕ
agent_at n i = cond (nat_eq i 0) (agent_text n) []

-- ---- the sites

-- one message of site i: `wi()`
abbrev pub message_text : ℕ → List ℕ
message_text i = codes "w" ++ decimal i ++ codes "()"

-- eight messages, joined by ` | `
abbrev pub messages_text : ℕ → List ℕ
messages_text i = join_by message_text (codes " | ") (replicate 8 i)

-- the line of site i: `site si [ wi() => 0`, the agent where i = 0, ` : `, the messages, ` ]`
abbrev pub site_text : ℕ → ℕ → List ℕ
site_text n i =
    codes "site s" ++ decimal i ++ codes " [ w" ++ decimal i ++ codes "() => 0" ++ agent_at n i
    ++ codes " : " ++ messages_text i ++ codes " ]\n"

-- ---- the ring

-- the declaration, and a line for each site from 0 to n - 1
abbrev pub ring_text : ℕ → List ℕ
ring_text n = codes "observe out/1;\n" ++ flat_map (site_text n) (range_with_len 0 n)
