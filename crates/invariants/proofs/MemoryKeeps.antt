-- EVERY COMMAND KEEPS A WELL-FORMED MEMORY WELL FORMED, and leaves in it just what the rules say. Assumes nothing.
use Rattle.laws.specs.Logic.{Bool, true, false, List, [], ◌∷◌, ◌≡◌, refl, ◌∙◌}
use Rattle.laws.specs.Numbers.{ℕ, ◌<◌, ◌≤◌, length, get_or}
use Rattle.laws.specs.Tabulate.{length_tabulate, get_d_tabulate}
use Rattle.rules.specs.Bounds.{max_resting}
use Rattle.rules.specs.Condition3.{run}
use Rattle.rules.specs.Exchange.{Exchange, listing_at, own, no_listing}
use Rattle.rules.specs.Kinds.{kind_of, code_of, last_of, step}
use Rattle.rules.specs.Memory.{Memory, listing_in, exchange_of, put, written, well_formed_memory, step_in, respond}
use Rattle.rules.specs.declared.Command.{Command}
use Rattle.theory.proofs.Codecs.{length_queue, length_trades}
use Rattle.theory.proofs.Stages.{Each, decided}
use Rattle.accounting.proofs.EachKind.{kind_shape}
use Rattle.accounting.proofs.StepShape.{SameShape, shape_trans, shape_sym}
use Rattle.invariants.proofs.Clauses.{Counted, Sound, WellFormed, well_formed, well_formed_test}
use Rattle.invariants.proofs.EachKind.{kind_keeps, kind_counted}
use Rattle.invariants.proofs.MemoryLaws.{exchange_put, length_buys, length_sells, length_trade_area, put_room, put_counts}
use Rattle.invariants.proofs.MemoryRoom.{CountsOk, RoomOk, memory_ok, memory_test}

-- ---- what is in use of a well-formed memory is sound

queue_few : (m : Memory) → CountsOk m.state → (c : ℕ) (sell : Bool) → c < m.state.contractcount → length (own sell (listing_in m c)) ≤ max_resting
unfolding listing_in
queue_few m k c true l = rw (length_queue m.sells c (get_or m.state.sellcounts c 0)) (k.sells c l)
queue_few m k c false l = rw (length_queue m.buys c (get_or m.state.buycounts c 0)) (k.buys c l)

pub counted : (m : Memory) → CountsOk m.state → Counted (exchange_of m)
unfolding exchange_of listing_at
counted m k =
    let n = length_tabulate m.state.contractcount (listing_in m) in
    record {
      contracts = rw n k.contracts_high;
      trades = rw (length_trades m.trades m.state.tradecount) k.trades;
      queues = λ c sell l.
          let h : c < m.state.contractcount = rw n at l in
          rw (get_d_tabulate m.state.contractcount c (listing_in m) no_listing h) (queue_few m k c sell h);
    }

pub sound : (m : Memory) → well_formed_memory m ≡ true → Sound (exchange_of m)
sound m w = let k = memory_ok m w in record { contents = well_formed (exchange_of m) k.contents; counts = counted m k.counts }

-- ---- the stages of one command, each written over the last

-- the areas are as long as they were
pub record SameLengths (m m' : Memory) : Type 0 where
  pub buys : length m'.buys ≡ length m.buys
  pub sells : length m'.sells ≡ length m.sells
  pub trades : length m'.trades ≡ length m.trades

pub same_lengths : (m : Memory) → SameLengths m m
same_lengths m = record { buys = refl; sells = refl; trades = refl }

lengths_trans : {m m' m'' : Memory} → SameLengths m m' → SameLengths m' m'' → SameLengths m m''
lengths_trans s t = record { buys = t.buys ∙ s.buys; sells = t.sells ∙ s.sells; trades = t.trades ∙ s.trades }

-- a stage is there to be written: it has the state's shape, and its counts are in range
abbrev pub Writable : Exchange → Exchange → Type 0
Writable x y = SameShape x y × Counted y

-- what stages of the shape of x leave in the memory, whose contents are x
record Left (m : Memory) (x : Exchange) (ys : List Exchange) : Type 0 where
  read : exchange_of (written m ys) ≡ last_of x ys
  counts : CountsOk (written m ys).state
  room : RoomOk (written m ys)
  lengths : SameLengths m (written m ys)

-- stages of the shape of x have the shape of the first of them
pub shaped_as : (x y : Exchange) → SameShape x y → (zs : List Exchange) → Each (Writable x) zs → Each (Writable y) zs
shaped_as x y s [] h = tt
shaped_as x y s (z ∷ zs) h = ((shape_trans (shape_sym s) h.0.0, h.0.1), shaped_as x y s zs h.1)

stages_left : (m : Memory) → CountsOk m.state → RoomOk m → (x : Exchange) → exchange_of m ≡ x → (ys : List Exchange) → Each (Writable x) ys → Left m x ys
stages_left m k r x e [] h = record { read = e; counts = k; room = r; lengths = same_lengths m }
stages_left m k r x e (y ∷ ys) h =
    let s : SameShape (exchange_of m) y = rw e h.0.0 in
    let one = exchange_put m k r y s h.0.1 in
    let rest = stages_left (put m y) (put_counts m k r y s h.0.1) (put_room m k r y s h.0.1) y one ys (shaped_as x y h.0.0 ys h.1) in
    record {
      read = rest.read;
      counts = rest.counts;
      room = rest.room;
      lengths =
          lengths_trans
          (record { buys = length_buys m k r y s h.0.1; sells = length_sells m k r y s h.0.1; trades = length_trade_area m k r y s h.0.1 })
          rest.lengths;
    }

pub both_each : (x : Exchange) (ys : List Exchange) → Each (SameShape x) ys → Each Counted ys → Each (Writable x) ys
both_each x [] s c = tt
both_each x (y ∷ ys) s c = ((s.0, c.0), both_each x ys s.1 c.1)

-- a stage that is well formed, written over a well-formed memory
module _ (m : Memory) (w : well_formed_memory m ≡ true) (y : Exchange) (s : SameShape (exchange_of m) y) (n : Counted y) where
  pub stage_read : exchange_of (put m y) ≡ y
  stage_read = exchange_put m (memory_ok m w).counts (memory_ok m w).room y s n

  pub stage_keeps : WellFormed y → well_formed_memory (put m y) ≡ true
  stage_keeps k =
      let its = memory_ok m w in
      memory_test (put m y)
      (record { counts = put_counts m its.counts its.room y s n; room = put_room m its.counts its.room y s n; contents = rw stage_read (well_formed_test y k) })

-- ---- one command

module _ (m : Memory) (w : well_formed_memory m ≡ true) (command : Command) where
  abbrev x : Exchange
  x = exchange_of m

  abbrev stages : List Exchange
  stages = (kind_of x command).effect.stages

  module _ (e : code_of x command ≡ 0) where
    left : Left m x stages
    left =
        let its = memory_ok m w in
        stages_left m its.counts its.room x refl stages (both_each x stages (kind_shape x command) (kind_counted x command (sound m w) e))

    pub accepted_read : exchange_of (written m stages) ≡ last_of x stages
    accepted_read = left.read

    pub accepted_keeps : well_formed_memory (written m stages) ≡ true
    accepted_keeps =
        memory_test (written m stages)
        (record {
          counts = left.counts;
          room = left.room;
          contents = rw left.read (well_formed_test (last_of x stages) (kind_keeps x command (sound m w) e));
        })

  pub step_in_keeps : well_formed_memory (step_in m command).memory ≡ true
  unfolding step_in
  step_in_keeps = decided (λ d. well_formed_memory (written m d.stages) ≡ true) x command accepted_keeps (λ e. w)

  pub step_in_read : exchange_of (step_in m command).memory ≡ step x command
  unfolding step_in step
  step_in_read = decided (λ d. exchange_of (written m d.stages) ≡ last_of x d.stages) x command accepted_read (λ e. refl)

-- ---- the whole step

module _ (m : Memory) (c : Command) (w : well_formed_memory m ≡ true) where
  pub memory_keeps : well_formed_memory (respond m c).memory ≡ true
  unfolding respond
  memory_keeps = rw w (step_in_keeps m w c)

  pub read_back : exchange_of (respond m c).memory ≡ step (exchange_of m) c
  unfolding respond
  read_back = rw w (step_in_read m w c)

-- ---- a run: well formed at its start is well formed throughout

pub run_keeps : (m : Memory) (cs : List Command) → well_formed_memory m ≡ true → well_formed_memory (run m cs) ≡ true
unfolding run
run_keeps m [] w = w
run_keeps m (c ∷ cs) w = run_keeps (respond m c).memory cs (memory_keeps m c w)
