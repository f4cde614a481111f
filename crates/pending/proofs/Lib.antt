mod Named
mod NoRows
