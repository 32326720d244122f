-- What clap finds in the words, and the call that it is.
use Rattle.std.proofs.Common.{rules, ◌≡◌, ℕ, ◌<◌, ◌≤◌, ◌^◌, List, Option, Some, None, option_map, codes, [], inl, inr}
use Rattle.std.proofs.Common.{refl, sym, ap, ◌∙◌, subst, arith, decimal, box_value}
use Rattle.std.specs.Option.{option_map_or}
use Rattle.clap.specs.Words.{Row, Text, all_of, fault_of, first_of, found_of, rows_of, subcommand_name_of}
use Rattle.clap.specs.Words.{subcommand_rows_of}
use Rattle.clap.specs.declared.parser.matches.ArgMatches.{ArgMatches}
use Rattle.clap.specs.declared.parser.matches.ArgMatches.TheViews.{out-ArgMatches, out-SubCommand}
use Rattle.clap.proofs.OnLiterals.{clap_on_literals}
use Rattle.grid_core.specs.{declared.conn.Conn.Conn, Tiles.IsTileSide}
use Rattle.command_line.proofs.{Numbers.one_number, Numbers.one_within, Ports.one_peers}
use Rattle.command_line.specs.Words.{program, ConnIs, SideIs, KindIs, HIs, IsCall, IsNode, IsPaint, Says, KeptFileIs}
use Rattle.command_line.specs.Words.{PagePortIs, NamesNoConn, NamesNoSide, NamesNoKind, NamesNoH}
use Rattle.command_line.specs.declared.words.Call.{Call}
use Rattle.command_line.specs.declared.words.Call.TheVariants.{View, Node, Derive, Paint}
use Rattle.view_session.specs.declared.derive.Derivation.{Derivation as Kind}
use Rattle.view_session.specs.declared.derive.Derivation.TheVariants.{Fill, HMax, RegMax}
use Rattle.page_server.specs.declared.call.PaintCall.{PaintCall}

-- both parts of a pair in an option
both_parts : {B X Y : Type 0} (f : B → X × Y) (o : Option B) (x : X) (y : Y)
    → option_map (λ b. (f b).0) o ≡ Some x → option_map (λ p. p.1) (option_map f o) ≡ Some y
    → option_map f o ≡ Some (x, y)
both_parts f None x y first second = search rules
both_parts f (Some b) x y first second = search rules

-- the name and the rows of the subcommand that was found
pub named_rows : (m : ArgMatches) (name : Text) (rows : List Row) → subcommand_name_of m ≡ Some name
    → option_map (λ p. p.1) (subcommand_rows_of m) ≡ Some rows → subcommand_rows_of m ≡ Some (name, rows)
named_rows m name rows =
    both_parts (λ b. (
      (out-SubCommand (box_value b)).name.now,
      rows_of (found_of (out-SubCommand (box_value b)).matches),
    ))
    (out-ArgMatches m).subcommand name rows

-- a view whose options name no connectivity or no side is no call
pub no_call : (rows : List Row) (named : Option (Text × List Row)) → named ≡ Some (codes "view", rows)
    → NamesNoConn (first_of (codes "conn") rows) → (call : Call) → IsCall named call → ⊥
no_call rows named is none (View conn side file) (other, same, says, tile, kept) =
    search rules
no_call rows named is none (Node conn side port ticks hands peers file) (other, same, node) =
    search rules
no_call rows named is none (Derive kind h conn) (other, same, is_kind, is_h, is_conn) =
    search rules
no_call rows named is none (Paint painting) (other, same, is_paint) =
    search rules

pub no_sided_call : (rows : List Row) (named : Option (Text × List Row)) → named ≡ Some (codes "view", rows)
    → NamesNoSide (first_of (codes "tile") rows) → (call : Call) → IsCall named call → ⊥
no_sided_call rows named is none (View conn side file) (other, same, says, tile, kept) =
    search rules
no_sided_call rows named is none (Node conn side port ticks hands peers file) (other, same, node) =
    search rules
no_sided_call rows named is none (Derive kind h conn) (other, same, is_kind, is_h, is_conn) =
    search rules
no_sided_call rows named is none (Paint painting) (other, same, is_paint) =
    search rules

-- a derivation that names no view, no number for `--h` or no connectivity is no call
pub no_kind_call : (rows : List Row) (named : Option (Text × List Row)) → named ≡ Some (codes "derive", rows)
    → NamesNoKind (first_of (codes "kind") rows) → (call : Call) → IsCall named call → ⊥
no_kind_call rows named is none (View conn side file) (other, same, says, tile, kept) =
    search rules
no_kind_call rows named is none (Node conn side port ticks hands peers file) (other, same, node) =
    search rules
no_kind_call rows named is none (Derive kind h conn) (other, same, is_kind, is_h, is_conn) =
    search rules
no_kind_call rows named is none (Paint painting) (other, same, is_paint) =
    search rules

pub no_h_call : (rows : List Row) (named : Option (Text × List Row)) → named ≡ Some (codes "derive", rows)
    → NamesNoH (first_of (codes "h") rows) → (call : Call) → IsCall named call → ⊥
no_h_call rows named is none (View conn side file) (other, same, says, tile, kept) =
    search rules
no_h_call rows named is none (Node conn side port ticks hands peers file) (other, same, node) =
    search rules
no_h_call rows named is none (Derive kind h conn) (other, same, is_kind, is_h, is_conn) =
    search rules
no_h_call rows named is none (Paint painting) (other, same, is_paint) =
    search rules

pub no_joined_call : (rows : List Row) (named : Option (Text × List Row)) → named ≡ Some (codes "derive", rows)
    → NamesNoConn (first_of (codes "conn") rows) → (call : Call) → IsCall named call → ⊥
no_joined_call rows named is none (View conn side file) (other, same, says, tile, kept) =
    search rules
no_joined_call rows named is none (Node conn side port ticks hands peers file) (other, same, node) =
    search rules
no_joined_call rows named is none (Derive kind h conn) (other, same, is_kind, is_h, is_conn) =
    search rules
no_joined_call rows named is none (Paint painting) (other, same, is_paint) =
    search rules

-- a name has one list of rows
same_rows : (name : Text) (a b : List Row)
    → ◌≡◌ {A = Option (Text × List Row)} (Some (name, a)) (Some (name, b)) → a ≡ b
same_rows name a b = ap (λ (found : Option (Text × List Row)). option_map_or (λ p. p.1) found [])

-- a call of a node is one by its rows
pub no_node_call : (rows : List Row) → ((conn : Conn) (side port ticks hands : ℕ) (peers : List ℕ) (file : Option Text)
    → IsNode rows conn side port ticks hands peers file → ⊥) → (call : Call) → IsCall (Some (codes "node", rows)) call
    → ⊥
no_node_call rows none (View conn side file) (other, same, says, tile, kept) = search rules
no_node_call rows none (Node conn side port ticks hands peers file) (other, same, node) =
    let is : other ≡ rows = same_rows (codes "node") other rows (sym same) in
    none conn side port ticks hands peers file
    (subst (λ (r : List Row). IsNode r conn side port ticks hands peers file) is node)
no_node_call rows none (Derive kind h conn) (other, same, is_kind, is_h, is_conn) = search rules
no_node_call rows none (Paint painting) (other, same, is_paint) = search rules

-- a call of a painting is one by its rows
pub no_paint_call : (rows : List Row) → ((painting : PaintCall) → IsPaint rows painting → ⊥) → (call : Call)
    → IsCall (Some (codes "paint", rows)) call → ⊥
no_paint_call rows none (View conn side file) (other, same, says, tile, kept) = search rules
no_paint_call rows none (Node conn side port ticks hands peers file) (other, same, node) = search rules
no_paint_call rows none (Derive kind h conn) (other, same, is_kind, is_h, is_conn) = search rules
no_paint_call rows none (Paint painting) (other, same, is_paint) =
    let is : other ≡ rows = same_rows (codes "paint") other rows (sym same) in
    none painting (subst (λ (r : List Row). IsPaint r painting) is is_paint)

-- no word is no subcommand
no_word_is_fault : fault_of program [] ≡ [] → ⊥
unfolding clap_on_literals
no_word_is_fault same = search rules

-- a value names at most one connectivity
one_conn : (value : Option Text) (a b : Conn) → ConnIs value a → ConnIs value b → a ≡ b
one_conn None a b first second = search rules
one_conn (Some v) a b first second = search rules

-- a side that tiles may have and a number of 16 bits are numbers of 32 bits
pub small_side : (side : ℕ) → IsTileSide side → side < 2 ^ 32
small_side side tile_side = omega (arith, tile_side.at_most)

pub small_h : (h : ℕ) → h ≤ 65535 → h < 2 ^ 32
small_h h within = omega (arith, within)

-- a value names at most one side
one_side : (value : Option Text) (a b : ℕ) → SideIs value a → SideIs value b → a ≡ b
one_side None a b first second = first ∙ sym second
one_side (Some v) a b first second =
    one_number v a b first.0 (small_side a first.1) second.0 (small_side b second.1)

-- and at most one number of 16 bits
one_h : (value : Option Text) (a b : ℕ) → HIs value a → HIs value b → a ≡ b
one_h None a b first second = first ∙ sym second
one_h (Some v) a b first second =
    one_number v a b first.0 (small_h a first.1) second.0 (small_h b second.1)

-- a text that is a greater number in decimal names no number of 16 bits
pub no_greater_h : (value : Option Text) (text : Text) (n : ℕ) → value ≡ Some text
    → (n < 2 ^ 32) × (text ≡ decimal n) → 65535 < n → NamesNoH value
no_greater_h value text n is read above =
    rw is (λ h named.
    let same = one_number text n h read.1 read.0 named.0 (small_h h named.1) in
    absurd (omega (arith, same, named.1, above)))

-- a word names at most one view
one_kind : (word : Option Text) (a b : Kind) → KindIs word a → KindIs word b → a ≡ b
one_kind word Fill Fill first second = refl
one_kind word HMax HMax first second = refl
one_kind word RegMax RegMax first second = refl
one_kind word Fill HMax first second = search rules
one_kind word Fill RegMax first second = search rules
one_kind word HMax Fill first second = search rules
one_kind word HMax RegMax first second = search rules
one_kind word RegMax Fill first second = search rules
one_kind word RegMax HMax first second = search rules

-- rows say at most one node
one_node : (rows : List Row) (a b : Conn) (s t p q k l h i : ℕ) (ps qs : List ℕ) (f g : Option Text)
    → IsNode rows a s p k h ps f → IsNode rows b t q l i qs g → Node a s p k h ps f ≡ Node b t q l i qs g
one_node rows a b s t p q k l h i ps qs f g first second =
    let conn : a ≡ b = one_conn (first_of (codes "conn") rows) a b first.conn_is second.conn_is in
    let side : s ≡ t = one_side (first_of (codes "tile") rows) s t first.side_is second.side_is in
    let file : f ≡ g = first.file_is ∙ sym second.file_is in
    let port : p ≡ q =
    one_within None 1 65535 (omega arith) (first_of (codes "port") rows) p q first.port_is second.port_is in
    let ticks : k ≡ l =
    one_within None 1 100000 (omega arith) (first_of (codes "ticks") rows) k l first.ticks_is second.ticks_is in
    let hands : h ≡ i =
    one_within (Some 2) 1 16 (omega arith) (first_of (codes "hands") rows) h i first.hands_is second.hands_is in
    let peers : ps ≡ qs = one_peers (all_of (codes "peer") rows) ps qs first.peers_are second.peers_are in
    cc

-- a painting's state file has at most one name
one_file : (mask : Text) (value : Option Text) (a b : Text) → KeptFileIs mask value a → KeptFileIs mask value b → a ≡ b
one_file mask None a b first second = first ∙ sym second
one_file mask (Some v) a b first second = first ∙ sym second

-- and its mask, too
one_mask : (value : Option Text) (a b : Text) → value ≡ Some a → value ≡ Some b → a ≡ b
one_mask value a b first second = ap (λ (v : Option Text). option_map_or (λ t. t) v []) (sym first ∙ second)

-- the value of a painting's port names at most one, or none
one_page_port : (value : Option Text) (a b : Option ℕ) → PagePortIs value a → PagePortIs value b → a ≡ b
one_page_port None a b first second = first ∙ sym second
one_page_port (Some v) a b (n, is, first) (m, is_too, second) =
    let same : n ≡ m = one_within None 0 65535 (omega arith) (Some v) n m first second in
    cc

-- a painting is the parts of it
same_parts : (a b f g : Text) (c d : Conn) (s t : ℕ) (k l : Option ℕ) (w x : Option Text) → a ≡ b → f ≡ g → c ≡ d
    → s ≡ t → k ≡ l → w ≡ x
    → ◌≡◌ {A = PaintCall} (record { mask = a; file = f; conn = c; side = s; port = k; forward = w })
    (record { mask = b; file = g; conn = d; side = t; port = l; forward = x })
same_parts a b f g c d s t k l w x mask file conn side port forward = cc

-- rows say at most one painting
one_painting : (rows : List Row) (p q : PaintCall) → IsPaint rows p → IsPaint rows q → p ≡ q
one_painting rows p q first second =
    let mask : p.mask ≡ q.mask = one_mask (first_of (codes "mask") rows) p.mask q.mask first.mask_is second.mask_is in
    let named : KeptFileIs p.mask (first_of (codes "state") rows) q.file =
    subst (λ (m : Text). KeptFileIs m (first_of (codes "state") rows) q.file) (sym mask) second.file_is in
    same_parts p.mask q.mask p.file q.file p.conn q.conn p.side q.side p.port q.port p.forward q.forward mask
    (one_file p.mask (first_of (codes "state") rows) p.file q.file first.file_is named)
    (one_conn (first_of (codes "conn") rows) p.conn q.conn first.conn_is second.conn_is)
    (one_side (first_of (codes "tile") rows) p.side q.side first.side_is second.side_is)
    (one_page_port (first_of (codes "port") rows) p.port q.port first.port_is second.port_is)
    (first.forward_is ∙ sym second.forward_is)

-- words say at most one call
pub one_call : (words : List Text) (a b : Call) → Says words a → Says words b → a ≡ b
one_call words (View a s f) (View b t g) first second = search (rules, one_conn, one_side, no_word_is_fault)
one_call words (View a s f) (Derive kind h conn) first second = search (rules, no_word_is_fault)
one_call words (View a s f) (Node b t q l i qs g) first second = search (rules, no_word_is_fault)
one_call words (Derive kind h conn) (View b t g) first second = search (rules, no_word_is_fault)
one_call words (Derive kind h conn) (Node b t q l i qs g) first second = search (rules, no_word_is_fault)
one_call words (Node a s p k h ps f) (View b t g) first second = search (rules, no_word_is_fault)
one_call words (Node a s p k h ps f) (Derive kind n conn) first second = search (rules, no_word_is_fault)
one_call words (Node a s p k h ps f) (Node b t q l i qs g) (inr (fault, (rows, named, node)))
    (inr (same, (others, is, other))) =
    let again : others ≡ rows = same_rows (codes "node") others rows (sym is ∙ named) in
    one_node rows a b s t p q k l h i ps qs f g node
    (subst (λ (r : List Row). IsNode r b t q l i qs g) again other)
one_call words (Node a s p k h ps f) (Node b t q l i qs g) (inl (none, is)) second = cc
one_call words (Node a s p k h ps f) (Node b t q l i qs g) (inr first) (inl (none, is)) = cc
one_call words (Derive kind h a) (Derive other g b) first second =
    search (rules, one_kind, one_h, one_conn, no_word_is_fault)
one_call words (Paint p) (View b t g) first second = search (rules, no_word_is_fault)
one_call words (Paint p) (Derive kind h conn) first second = search (rules, no_word_is_fault)
one_call words (Paint p) (Node b t q l i qs g) first second = search (rules, no_word_is_fault)
one_call words (View a s f) (Paint q) first second = search (rules, no_word_is_fault)
one_call words (Derive kind h conn) (Paint q) first second = search (rules, no_word_is_fault)
one_call words (Node a s p k h ps f) (Paint q) first second = search (rules, no_word_is_fault)
one_call words (Paint p) (Paint q) (inr (fault, (rows, named, paint))) (inr (same, (others, is, other))) =
    let again : others ≡ rows = same_rows (codes "paint") others rows (sym is ∙ named) in
    ap Paint (one_painting rows p q paint (subst (λ (r : List Row). IsPaint r q) again other))
one_call words (Paint p) (Paint q) (inl (none, is)) second = cc
one_call words (Paint p) (Paint q) (inr first) (inl (none, is)) = cc

-- where there is no word, none is named
pub names_none : {T : Type 0} (f : T → Text) (o : Option T) (name : Text) → ((x : T) → o ≡ Some x → ⊥)
    → option_map f o ≡ Some name → ⊥
names_none f None name none is = cc
names_none f (Some x) name none is = none x refl
