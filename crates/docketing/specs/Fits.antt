-- What the bytes of a judge have room for.
--
--   InputsFit x, OutputsFit o == each column fits its bytes
--   Low l       == l has sixteen counts, each of which fits its byte
--   JudgeFits j == each number of the judge j fits its bytes
use Rattle.std.specs.Prelude.{ℕ, ◌<◌, ◌≡◌, List, length, get_or}
use Rattle.rules.specs.declared.Inputs.{Inputs}
use Rattle.rules.specs.declared.Outputs.{Outputs}
use Rattle.rules.specs.Codes.{most_masters}
use Rattle.rulebook.specs.declared.Judge.{Judge}
use Rattle.docketing.specs.Bytes.{left_byte}

pub record InputsFit (x : Inputs) : Type 0 where
  pub hbusreq : x.hbusreq < 65536
  pub hlock : x.hlock < 65536
  pub hready : x.hready < 256
  pub htrans : x.htrans < 256
  pub hburst : x.hburst < 256

pub record OutputsFit (o : Outputs) : Type 0 where
  pub hgrant : o.hgrant < 65536
  pub hmaster : o.hmaster < 256
  pub hmastlock : o.hmastlock < 256
  pub decide : o.decide < 256
  pub granted : o.granted < 256
  pub busreq : o.busreq < 256

pub record Low (l : List ℕ) : Type 0 where
  pub size : length l ≡ most_masters
  pub below : (i : ℕ) → get_or l i 0 < 256

pub record JudgeFits (j : Judge) : Type 0 where
  pub n : j.n < 256
  pub left : left_byte j.watch < 256
  pub locked : j.locked < 65536
  pub waited : j.waited < 256
  pub count : j.count < 4294967296
  pub inputs : InputsFit j.previous.inputs
  pub outputs : OutputsFit j.previous.outputs
  pub lost : Low j.lost
