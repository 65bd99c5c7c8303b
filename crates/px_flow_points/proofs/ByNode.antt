-- What is kept by nodes is what points-to has for their statements.
use Rattle.std.proofs.Common.{ℕ, List}
use Rattle.px_normal.specs.declared.code.Code.{Code}
use Rattle.px_flow_points.specs.declared.part.Part.{Part}
use Rattle.px_flow_points.specs.declared.pairs.Touch.{Touch}
use Rattle.px_flow_points.specs.declared.touched.Access.TheVariants.{Reads, Writes}
use Rattle.px_flow_points.specs.There.{NumbersExist}
use Rattle.px_flow_points.specs.Exact.{PointsOf, ArePoints}
use Rattle.px_flow_points.specs.Touched.{AreTouchedByWord}
use Rattle.px_flow_points.specs.ByNode.{methods_touches, ReadsAt, WritesAt, AreAll, AreTouched}
use Rattle.px_flow_points.proofs.Touching.{are_touched}
use Rattle.px_flow_points.proofs.TouchWhere.{Touches, touched_to, touched_back}
use Rattle.px_flow_points.proofs.Rising.{pairs_rise}

module _ (code : Code) (P : PointsOf) (T : AreTouchedByWord code P) (node s : ℕ) (part : Part) where
  reads_to : Touches code P Reads node s part → ReadsAt code node s part
  reads_to r = record { method = r.method; word = r.word; has = r.has; reads = (T.reads r.method node s r.word part r.has).to (r.at, r.part_is) }

  reads_back : ReadsAt code node s part → Touches code P Reads node s part
  reads_back r = let b = (T.reads r.method node s r.word part r.has).back r.reads in record { method = r.method; word = r.word; has = r.has; at = b.0; part_is = b.1 }

  writes_to : Touches code P Writes node s part → WritesAt code node s part
  writes_to r = record { method = r.method; word = r.word; has = r.has; writes = (T.writes r.method node s r.word part r.has).to (r.at, r.part_is) }

  writes_back : WritesAt code node s part → Touches code P Writes node s part
  writes_back r = let b = (T.writes r.method node s r.word part r.has).back r.writes in record { method = r.method; word = r.word; has = r.has; at = b.0; part_is = b.1 }

pub by_node : (code : Code) (P : PointsOf) (reads writes : List Touch) → NumbersExist code → ArePoints code P → AreAll (methods_touches P Reads 1 code.methods) reads → AreAll (methods_touches P Writes 1 code.methods) writes → AreTouched code (record { sets = P; reads = reads; writes = writes })
by_node code P reads writes E A R W = let T = are_touched code P E A in record {
  reads = λ node s part. record { to = λ h. reads_to code P T node s part (touched_to code P Reads reads R node s part h); back = λ h. touched_back code P Reads reads R node s part (reads_back code P T node s part h) };
  writes = λ node s part. record { to = λ h. writes_to code P T node s part (touched_to code P Writes writes W node s part h); back = λ h. touched_back code P Writes writes W node s part (writes_back code P T node s part h) };
  reads_rise = λ node. pairs_rise node reads R.rise;
  writes_rise = λ node. pairs_rise node writes W.rise;
}
