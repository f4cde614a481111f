-- Document 01's rules (a) to (i), in their order, with document 02's numbers. Each says of a block, in its setting, that the rule is kept.
use Rattle.std.specs.Prelude.{Bool, true, false, not, ◌&&◌, ◌||◌, List, [], ◌∷◌, take, leb, eqb}
use Rattle.header.specs.Order.{Rule, of_each}
use Rattle.header.specs.declared.Block.{Block}
use Rattle.header.specs.declared.Blocks.{Blocks}
use Rattle.header.specs.declared.Header.{Header}
use Rattle.header.specs.declared.Setting.{Setting}

-- where a holds, b has to
abbrev pub ◌⇒◌ : Bool → Bool → Bool
true ⇒ b = b
false ⇒ b = true

infixr 10 ◌⇒◌
-- (a) without an originator (G1) there are no requests (G7)
unfoldable pub rule_a : Setting → Block → Bool
rule_a x b = not x.originator ⇒ not b.times.requests.present

-- (b) a response (G8) has neither a perishability time (G6) nor requests (G7)
unfoldable pub rule_b : Setting → Block → Bool
rule_b x b = b.response.present ⇒ (not b.times.perish.present && not b.times.requests.present)

-- (c) format 1 has no message identification (G4)
unfoldable pub rule_c : Setting → Block → Bool
rule_c x b = eqb b.format.umf 1 ⇒ not b.format.identity.present

-- (d) format 4 has none either
unfoldable pub rule_d : Setting → Block → Bool
rule_d x b = eqb b.format.umf 4 ⇒ not b.format.identity.present

-- (e) with compression there is no response (G8)
unfoldable pub rule_e : Setting → Block → Bool
rule_e x b = x.compression ⇒ not b.response.present

-- (f) where there are several blocks, the header has its size
unfoldable pub rule_f_header : Setting → Bool
rule_f_header x = x.several ⇒ x.sized

-- and so has this block
unfoldable pub rule_f : Setting → Block → Bool
rule_f x b = x.several ⇒ b.handling.size.present

-- (g) only R/C 6 has a reason why one cannot comply
unfoldable pub rule_g : Setting → Block → Bool
rule_g x b = b.response.present ⇒ not (eqb b.response.response.compliance.code 6) ⇒ not b.response.response.compliance.cantco.present

-- (h) only R/C 2 has a reason why one cannot process
unfoldable pub rule_h : Setting → Block → Bool
rule_h x b = b.response.present ⇒ not (eqb b.response.response.compliance.code 2) ⇒ not b.response.response.compliance.cantpro.present

-- (i) where a request bit of G7 is set, the originator's time (G5) is there, by which an answer can name the message
unfoldable pub rule_i : Setting → Block → Bool
rule_i x b =
    b.times.requests.present
    ⇒ (b.times.requests.requests.machine || b.times.requests.requests.acknowledge || b.times.requests.requests.reply)
    ⇒ b.times.origin.present

-- in their order; of the record as a whole only (f) asks something
abbrev pub rules : Setting → List (Rule Block)
rules x =
    of_each 41 (rule_a x)
    ∷ of_each 42 (rule_b x)
    ∷ of_each 43 (rule_c x)
    ∷ of_each 44 (rule_d x)
    ∷ of_each 45 (rule_e x)
    ∷ record { number = 46; whole = rule_f_header x; each = rule_f x }
    ∷ of_each 47 (rule_g x)
    ∷ of_each 48 (rule_h x)
    ∷ of_each 49 (rule_i x)
    ∷ []

unfoldable pub all : {A : Type 0} → (A → Bool) → List A → Bool
all f [] = true
all f (x ∷ xs) = f x && all f xs

abbrev pub used_blocks : Blocks → List Block
used_blocks g = take g.count g.list

abbrev pub setting_of : Header → Setting
setting_of h =
    record {
      originator = h.front.originator.present;
      compression = h.front.compression.present;
      sized = h.sized;
      several = leb 2 h.blocks.count;
    }
